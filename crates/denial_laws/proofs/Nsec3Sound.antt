-- True facts with NSEC3 records decide the zone's verdict on a name that is no alias, or nothing.
use Rattle.std.proofs.Common.{◌≡◌, ℕ, ◌<◌, Bool, true, false, List, [], ◌∷◌, Option, Some, None, refl, sym, ap, subst, ◌∙◌}
use Rattle.std.specs.Prelude.{IfSome}
use Rattle.std.specs.List.{AllByRecursion}
use Rattle.definitions.specs.Name.{Name, low, at_or_above}
use Rattle.definitions.specs.Zone.{Zone, Verdict, Records, apex_of}
use Rattle.definitions.specs.ZoneChain.{Nsec3}
use Rattle.definitions.proofs.ZoneNames.{above_itself, lowered_above}
use Rattle.denial_laws.specs.Facts.{Rrset, HashLink, Facts, is_expanded}
use Rattle.denial_laws.specs.NsecRules.{first_some, denied, expanded}
use Rattle.denial_laws.specs.Nsec3Rules.{is_matched, at_hash, by_closest_encloser, hash_denied, hash_expanded}
use Rattle.denial_laws.specs.Deciding.{by_chain, by_wildcard, decided_inside, decided}
use Rattle.denial_laws.specs.Truth.{Concerns, IsServable, IsTrueRrset, SaysTrulyHash, AreTrue}
use Rattle.denial_laws.specs.Laws.{IsSaidBy}
use Rattle.denial_laws.proofs.HashChain.{concerns_name}
use Rattle.denial_laws.proofs.AtName.{on_true}
use Rattle.denial_laws.proofs.SignedNames.{records_truly}
use Rattle.denial_laws.proofs.Nsec3Matched.{matched_truly}
use Rattle.denial_laws.proofs.Nsec3Climb.{climbed_truly}
use Rattle.denial_laws.proofs.Nsec3Wildcard.{hash_expanded_truly}

module _ (z : Zone) (hash : Name → List ℕ) (iterations : ℕ) (salt : List ℕ) (ex : Bool) (q : Name) (t : ℕ) (s : IsServable z) (l : t < 65536) (inside : at_or_above z.name q ≡ true) where
  hash_denied_truly : (fs : List HashLink) → AllByRecursion (SaysTrulyHash z hash ex q) fs → (v : Verdict) → hash_denied z.name hash q t fs ≡ Some v → IsSaidBy z ex q t v
  hash_denied_truly fs all v h = go (is_matched fs (hash (low q))) h
    where
      own : Concerns z q q
      own = concerns_name (apex_of z) q q (lowered_above z.name q ∙ inside) (above_itself q)

      go : (b : Bool) → (elim b as (λ _. Option Verdict) [ true ↦ first_some (at_hash z.name q t (hash (low q))) fs | false ↦ by_closest_encloser z.name hash q t fs ]) ≡ Some v → IsSaidBy z ex q t v
      go true h = matched_truly z hash ex s q t l own fs all v h
      go false h = climbed_truly z hash ex s q t l inside fs all v h

  -- a chain of NSEC3 records, of which there may be none
  by_chain_truly : (f : Facts) → f.links ≡ [] → AllByRecursion (SaysTrulyHash z hash ex q) f.hash_links → (v : Verdict) → by_chain z.name hash f q t ≡ Some v → IsSaidBy z ex q t v
  by_chain_truly f none all v h = go f.hash_links (λ k. hash_denied_truly f.hash_links all v k) h
    where
      nothing : denied z.name q t f.links ≡ None
      nothing = ap (denied z.name q t) none

      go : (fs : List HashLink) → (hash_denied z.name hash q t f.hash_links ≡ Some v → IsSaidBy z ex q t v)
          → (elim fs as (λ _. Option Verdict) [ [] ↦ denied z.name q t f.links | _ ∷ _ ↦ hash_denied z.name hash q t f.hash_links ]) ≡ Some v → IsSaidBy z ex q t v
      go [] k h = let wrong : None ≡ Some v = sym nothing ∙ h in absurd cc
      go (x ∷ xs) k h = k h

  by_wildcard_truly : (f : Facts) → f.links ≡ [] → AllByRecursion (SaysTrulyHash z hash ex q) f.hash_links → (r : Rrset) → IsTrueRrset z q t r → is_expanded r q ≡ true → (v : Verdict)
      → by_wildcard z.name hash f r q ≡ Some v → IsSaidBy z ex q t v
  by_wildcard_truly f none all r k x v h = go f.hash_links (λ e. hash_expanded_truly z hash ex s q t inside r k x f.hash_links all v e) h
    where
      nothing : expanded z.name q r f.links ≡ None
      nothing = ap (expanded z.name q r) none

      go : (fs : List HashLink) → (hash_expanded hash q r f.hash_links ≡ Some v → IsSaidBy z ex q t v)
          → (elim fs as (λ _. Option Verdict) [ [] ↦ expanded z.name q r f.links | _ ∷ _ ↦ hash_expanded hash q r f.hash_links ]) ≡ Some v → IsSaidBy z ex q t v
      go [] k h = let wrong : None ≡ Some v = sym nothing ∙ h in absurd cc
      go (x ∷ xs) k h = k h

  inside_truly : (f : Facts) → AreTrue z hash (Nsec3 iterations salt ex) q t f → (v : Verdict) → decided_inside z.name hash f q t ≡ Some v → IsSaidBy z ex q t v
  inside_truly f k v h = go f.rrset k.rrset h
    where
      of_rrset : (r : Rrset) → IsTrueRrset z q t r → (b : Bool) → is_expanded r q ≡ b
          → (elim b as (λ _. Option Verdict) [ false ↦ Some (Records r.datas) | true ↦ by_wildcard z.name hash f r q ]) ≡ Some v → IsSaidBy z ex q t v
      of_rrset r m false e h = let is : Records r.datas ≡ v = cc in subst (IsSaidBy z ex q t) is (records_truly z s ex q t r m e)
      of_rrset r m true e h = by_wildcard_truly f k.said.0 k.said.1 r m e v h

      go : (o : Option Rrset) → IfSome o (IsTrueRrset z q t)
          → (elim o as (λ _. Option Verdict) [
            | None ↦ by_chain z.name hash f q t
            | Some r ↦ elim (is_expanded r q) [ false ↦ Some (Records r.datas) | true ↦ by_wildcard z.name hash f r q ]
          ]) ≡ Some v → IsSaidBy z ex q t v
      go None m h = by_chain_truly f k.said.0 k.said.1 v h
      go (Some r) m h = of_rrset r m (is_expanded r q) refl h

pub sound_hashed : (z : Zone) (hash : Name → List ℕ) (iterations : ℕ) (salt : List ℕ) (ex : Bool) (f : Facts) (q : Name) (t : ℕ) (v : Verdict) → IsServable z → t < 65536
    → AreTrue z hash (Nsec3 iterations salt ex) q t f → decided z.name hash f q t ≡ Some v → IsSaidBy z ex q t v
sound_hashed z hash iterations salt ex f q t v s l k h =
    let inside = on_true (at_or_above z.name q) (decided_inside z.name hash f q t) v h in
    inside_truly z hash iterations salt ex q t s l inside.0 f k v inside.1

-- True facts with NSEC records decide the zone's verdict on a name that is no alias, or nothing.
use Rattle.std.proofs.Common.{◌≡◌, ℕ, ◌<◌, Bool, true, false, List, [], ◌∷◌, Option, Some, None, refl, sym, ap, subst, ◌∙◌, inl, inr}
use Rattle.std.specs.Prelude.{IfSome}
use Rattle.definitions.specs.Name.{Name, low, at_or_above}
use Rattle.definitions.specs.Zone.{Zone, Verdict, Records, apex_of}
use Rattle.definitions.specs.ZoneChain.{Nsec}
use Rattle.definitions.proofs.Members.{In}
use Rattle.denial_laws.specs.Facts.{Rrset, Link, HashLink, Facts, is_expanded}
use Rattle.denial_laws.specs.NsecRules.{first_some, or_else, denies, at_owner, below_cut, covered, denied, expanded_by, expanded}
use Rattle.denial_laws.specs.Nsec3Rules.{hash_denied, hash_expanded}
use Rattle.denial_laws.specs.Deciding.{by_chain, by_wildcard, decided_inside, decided}
use Rattle.denial_laws.specs.Truth.{IsServable, SaysTruly, IsTrueRrset, AreTrue}
use Rattle.denial_laws.specs.Laws.{IsSaidBy}
use Rattle.denial_laws.proofs.NameFacts.{above-low}
use Rattle.denial_laws.proofs.ChainBits.{all_at}
use Rattle.denial_laws.proofs.SignedNames.{records_truly}
use Rattle.denial_laws.proofs.Found.{either_from, first_from, none_from}
use Rattle.denial_laws.proofs.AtName.{on_true}
use Rattle.denial_laws.proofs.NsecOwner.{denies_truly, owner_truly}
use Rattle.denial_laws.proofs.NsecCovered.{below_cut_truly, covered_truly}
use Rattle.denial_laws.proofs.NsecWildcard.{expanded_truly}

module _ (z : Zone) (s : IsServable z) (q : Name) (t : ℕ) (l : t < 65536) (a : at_or_above (apex_of z) (low q) ≡ true) where
  module _ (fs : List Link) (ks : (g : Link) → In g fs → SaysTruly z q g) where
    undenied_truly : first_some (denies q) fs ≡ None → (v : Verdict) → or_else (first_some (at_owner z.name q t) fs) (or_else (first_some (below_cut z.name q) fs) (first_some (covered z.name q t fs) fs)) ≡ Some v → IsSaidBy z false q t v
    undenied_truly n v h = elim (either_from (first_some (at_owner z.name q t) fs) _ v h) [
      | inl e ↦ let f = first_from (at_owner z.name q t) fs v e in owner_truly z s q t l f.0 (ks f.0 f.1.0) (none_from (denies q) fs n f.0 f.1.0) v f.1.1
      | inr r ↦ elim (either_from (first_some (below_cut z.name q) fs) (first_some (covered z.name q t fs) fs) v r.1) [
        | inl e ↦ let f = first_from (below_cut z.name q) fs v e in below_cut_truly z s f.0 (ks f.0 f.1.0) q t v f.1.1
        | inr e ↦
            let f = first_from (covered z.name q t fs) fs v e.1 in
            covered_truly z s q t l fs ks a f.0 f.1.0 (none_from (below_cut z.name q) fs e.0 f.0 f.1.0) v f.1.1
      ]
    ]

    denied_truly : (v : Verdict) → denied z.name q t fs ≡ Some v → IsSaidBy z false q t v
    denied_truly v h = elim (either_from (first_some (denies q) fs) (or_else (first_some (at_owner z.name q t) fs) (or_else (first_some (below_cut z.name q) fs) (first_some (covered z.name q t fs) fs))) v h) [
      | inl e ↦ let f = first_from (denies q) fs v e in denies_truly z s q t l f.0 (ks f.0 f.1.0) v f.1.1
      | inr r ↦ undenied_truly r.0 v r.1
    ]

    wildcard_truly : (r : Rrset) → IsTrueRrset z q t r → is_expanded r q ≡ true → (v : Verdict) → expanded z.name q r fs ≡ Some v → IsSaidBy z false q t v
    wildcard_truly r k x v h = let f = first_from (expanded_by z.name q r) fs v h in expanded_truly z s q t r k x a f.0 (ks f.0 f.1.0) v f.1.1

module _ (z : Zone) (hash : Name → List ℕ) (f : Facts) (q : Name) (t : ℕ) (none : f.hash_links ≡ []) where
  by_links : by_chain z.name hash f q t ≡ denied z.name q t f.links
  by_links = ap (λ (hs : List HashLink). elim hs as (λ _. Option Verdict) [ [] ↦ denied z.name q t f.links | _ ∷ _ ↦ hash_denied z.name hash q t f.hash_links ]) none

  star_by_links : (r : Rrset) → by_wildcard z.name hash f r q ≡ expanded z.name q r f.links
  star_by_links r = ap (λ (hs : List HashLink). elim hs as (λ _. Option Verdict) [ [] ↦ expanded z.name q r f.links | _ ∷ _ ↦ hash_expanded hash q r f.hash_links ]) none

pub sound_links : (z : Zone) (hash : Name → List ℕ) (f : Facts) (q : Name) (t : ℕ) (v : Verdict) → IsServable z → t < 65536 → AreTrue z hash Nsec q t f
    → decided z.name hash f q t ≡ Some v → IsSaidBy z false q t v
sound_links z hash f q t v s l k h =
    let inside = on_true (at_or_above z.name q) (decided_inside z.name hash f q t) v h in
    go (above-low z.name q ∙ inside.0) f.rrset k.rrset inside.1
  where
    true_links : (g : Link) → In g f.links → SaysTruly z q g
    true_links g i = all_at (SaysTruly z q) f.links g k.said.0 i

    of_star : at_or_above (apex_of z) (low q) ≡ true → (r : Rrset) → IsTrueRrset z q t r → (b : Bool) → is_expanded r q ≡ b
        → (elim b as (λ _. Option Verdict) [ false ↦ Some (Records r.datas) | true ↦ by_wildcard z.name hash f r q ]) ≡ Some v → IsSaidBy z false q t v
    of_star a r m false e h = let is : Records r.datas ≡ v = cc in subst (IsSaidBy z false q t) is (records_truly z s false q t r m e)
    of_star a r m true e h = wildcard_truly z s q t l a f.links true_links r m e v (sym (star_by_links z hash f q t k.said.1 r) ∙ h)

    go : at_or_above (apex_of z) (low q) ≡ true → (o : Option Rrset) → IfSome o (IsTrueRrset z q t)
        → (elim o as (λ _. Option Verdict) [
          | None ↦ by_chain z.name hash f q t
          | Some r ↦ elim (is_expanded r q) [ false ↦ Some (Records r.datas) | true ↦ by_wildcard z.name hash f r q ]
        ]) ≡ Some v → IsSaidBy z false q t v
    go a None m h = denied_truly z s q t l a f.links true_links v (sym (by_links z hash f q t k.said.1) ∙ h)
    go a (Some r) m h = of_star a r m (is_expanded r q) refl h

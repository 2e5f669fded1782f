-- Records of chains bring no verdict that tells data; one that tells data tells those of the verified RRset.
use Rattle.std.proofs.Common.{◌≡◌, ℕ, ◌+◌, Bool, true, false, not, ◌&&◌, ◌==◌, List, [], ◌∷◌, refl, sym, ap, ◌∙◌}
use Rattle.std.specs.Prelude.{Option, Some, None}
use Rattle.std.specs.List.{list_any}
use Rattle.definitions.specs.Bitmap.{bitmap_has}
use Rattle.definitions.specs.Name.{Name, at_or_above, low, same, strictly_above}
use Rattle.definitions.specs.Zone.{Verdict, Records, NoType, NoName, StarRecords, StarNoType, Delegated, Open, Unsigned, star_under}
use Rattle.denial_laws.specs.Deciding.{by_chain, by_wildcard, decided, decided_inside}
use Rattle.denial_laws.specs.Facts.{Facts, HashLink, Link, Rrset, is_expanded}
use Rattle.denial_laws.specs.NsecRules.{at_name, at_owner, at_star, below_cut, closest, covered, denied, denies, has_more, has_nxname, tells, encloses_at, expanded, expanded_by, first_some, is_cut, lacks, link_covers, or_else, star_lacks}
use Rattle.denial_laws.specs.Nsec3Rules.{at_hash, beyond, by_closest_encloser, covers_hash, cut_above, enclosed, encloses, hash_denied, hash_expanded, hash_expanded_by, is_at, is_matched, last_labels, star_at}

-- the data that a verdict tells
abbrev pub told_data : Verdict → Option (List (List ℕ))
told_data (Records ds) = Some ds
told_data (StarRecords ds) = Some ds
told_data NoType = None
told_data NoName = None
told_data StarNoType = None
told_data Delegated = None
told_data Open = None
told_data Unsigned = None

abbrev pub data_of : Option Verdict → Option (List (List ℕ))
data_of None = None
data_of (Some v) = told_data v

-- what brings no data, or these
abbrev TellsOnly : Option (List (List ℕ)) → Option Verdict → Type 0
TellsOnly own o = (ds : List (List ℕ)) → data_of o ≡ Some ds → own ≡ Some ds

none_tells : (own : Option (List (List ℕ))) → TellsOnly own None
none_tells own ds h = cc

either : (own : Option (List (List ℕ))) (b : Bool) (x y : Option Verdict) → TellsOnly own x → TellsOnly own y → TellsOnly own (elim b as (λ _. Option Verdict) [ true ↦ x | false ↦ y ])
either own true x y p q = p
either own false x y p q = q

first_tells : {A : Type 0} (own : Option (List (List ℕ))) (f : A → Option Verdict) → ((a : A) → TellsOnly own (f a)) → (xs : List A) → TellsOnly own (first_some f xs)
first_tells own f h [] = none_tells own
first_tells own f h (x ∷ xs) = go (f x) (h x) (first_tells own f h xs)
  where
    go : (o : Option Verdict) → TellsOnly own o → TellsOnly own (first_some f xs) → TellsOnly own (elim o as (λ _. Option Verdict) [ None ↦ first_some f xs | Some y ↦ Some y ])
    go None p rest = rest
    go (Some v) p rest = p

or_tells : (own : Option (List (List ℕ))) (x y : Option Verdict) → TellsOnly own x → TellsOnly own y → TellsOnly own (or_else x y)
or_tells own None y p q = q
or_tells own (Some v) y p q = p

-- ---- without a verified RRset

abbrev Silent : Option Verdict → Type 0
Silent o = TellsOnly None o

plain : (v : Verdict) → told_data v ≡ None → Silent (Some v)
plain v e ds h = sym e ∙ h

name_silent : (apex q : Name) (t : ℕ) (bits : List ℕ) → Silent (at_name apex q t bits)
name_silent apex q t bits = either None (is_cut apex q bits && not (t == 43)) _ _ (plain Delegated refl) (either None (lacks bits t) _ _ (plain NoType refl) (none_tells None))

star_silent : (apex s : Name) (t : ℕ) (f : Link) → Silent (at_star apex s t f)
star_silent apex s t f = either None (same f.owner s) _ _
    (either None (star_lacks f.bits t && has_more f.bits) _ _ (plain StarNoType refl) (none_tells None))
    (either None (link_covers apex f s) _ _ (either None (strictly_above s f.next) _ _ (plain StarNoType refl) (plain NoName refl)) (none_tells None))

covered_silent : (apex q : Name) (t : ℕ) (fs : List Link) (f : Link) → Silent (covered apex q t fs f)
covered_silent apex q t fs f = either None (link_covers apex f q) _ _ (either None (strictly_above q f.next) _ _ (plain NoType refl) (go (closest f q))) (none_tells None)
  where
    go : (o : Option Name) → Silent (elim o as (λ _. Option Verdict) [ None ↦ None | Some e ↦ first_some (at_star apex (star_under e) t) fs ])
    go None = none_tells None
    go (Some e) = first_tells None (at_star apex (star_under e) t) (star_silent apex (star_under e) t) fs

undenied_silent : (apex q : Name) (t : ℕ) (fs : List Link) → Silent (or_else (first_some (at_owner apex q t) fs) (or_else (first_some (below_cut apex q) fs) (first_some (covered apex q t fs) fs)))
undenied_silent apex q t fs = or_tells None (first_some (at_owner apex q t) fs) _
    (first_tells None (at_owner apex q t) (λ f. either None (same f.owner q && tells f) _ _ (name_silent apex q t f.bits) (none_tells None)) fs)
    (or_tells None (first_some (below_cut apex q) fs) _
    (first_tells None (below_cut apex q) (λ f. either None (is_cut apex f.owner f.bits && strictly_above f.owner q && not (bitmap_has f.bits 39)) _ _ (plain Delegated refl) (none_tells None)) fs)
    (first_tells None (covered apex q t fs) (covered_silent apex q t fs) fs))

denied_silent : (apex q : Name) (t : ℕ) (fs : List Link) → Silent (denied apex q t fs)
denied_silent apex q t fs = or_tells None (first_some (denies q) fs) _
    (first_tells None (denies q) (λ f. either None (same f.owner q && has_nxname f.bits) _ _ (plain NoName refl) (none_tells None)) fs)
    (undenied_silent apex q t fs)

module _ (apex : Name) (hash : Name → List ℕ) (t : ℕ) (fs : List HashLink) where
  star_at_silent : (h : List ℕ) (f : HashLink) → Silent (star_at h t f)
  star_at_silent h f = either None (is_at h f) _ _ (either None (star_lacks f.bits t) _ _ (plain StarNoType refl) (none_tells None)) (either None (covers_hash h f) _ _ (plain NoName refl) (none_tells None))

  beyond_silent : (e : Name) (h : List ℕ) (f : HashLink) → Silent (beyond hash e t fs h f)
  beyond_silent e h f = either None (covers_hash h f) _ _
      (either None f.opt_out _ _ (plain Open refl) (first_tells None (star_at (hash (low (star_under e))) t) (star_at_silent (hash (low (star_under e)))) fs))
      (none_tells None)

  enclosed_silent : (closer e : Name) → Silent (enclosed apex hash closer e t fs)
  enclosed_silent closer e =
      let h = hash (low e) in
      or_tells None (first_some (cut_above apex e h) fs) _
      (first_tells None (cut_above apex e h) (λ f. either None (encloses h f && is_cut apex e f.bits) _ _ (plain Delegated refl) (none_tells None)) fs)
      (either None (list_any (encloses h) fs) _ _ (first_tells None (beyond hash e t fs (hash (low closer))) (beyond_silent e (hash (low closer))) fs) (none_tells None))

  climbed_silent : (q : Name) → Silent (by_closest_encloser apex hash q t fs)
  climbed_silent [] = none_tells None
  climbed_silent (l ∷ p) = either None (same (l ∷ p) apex) _ _ (none_tells None) (either None (is_matched fs (hash (low p))) _ _ (enclosed_silent (l ∷ p) p) (climbed_silent p))

  hash_silent : (q : Name) → Silent (hash_denied apex hash q t fs)
  hash_silent q =
      let h = hash (low q) in
      either None (is_matched fs h) _ _ (first_tells None (at_hash apex q t h) (λ f. either None (is_at h f) _ _ (name_silent apex q t f.bits) (none_tells None)) fs) (climbed_silent q)

chain_silent : (apex : Name) (hash : Name → List ℕ) (f : Facts) (q : Name) (t : ℕ) → Silent (by_chain apex hash f q t)
chain_silent apex hash f q t = go f.hash_links
  where
    go : (ls : List HashLink) → Silent (elim ls as (λ _. Option Verdict) [ [] ↦ denied apex q t f.links | _ ∷ _ ↦ hash_denied apex hash q t ls ])
    go [] = denied_silent apex q t f.links
    go (l ∷ ls) = hash_silent apex hash t (l ∷ ls) q

-- ---- with one

module _ (apex : Name) (hash : Name → List ℕ) (f : Facts) (q : Name) (t : ℕ) where
  module _ (r : Rrset) where
    own : Verdict → Type 0
    own v = TellsOnly (Some r.datas) (Some v)

    wildcard_tells : TellsOnly (Some r.datas) (by_wildcard apex hash f r q)
    wildcard_tells = go f.hash_links
      where
        go : (ls : List HashLink) → TellsOnly (Some r.datas) (elim ls as (λ _. Option Verdict) [ [] ↦ expanded apex q r f.links | _ ∷ _ ↦ hash_expanded hash q r ls ])
        go [] = first_tells (Some r.datas) (expanded_by apex q r) (λ l. either (Some r.datas) (link_covers apex l q && not (strictly_above q l.next) && encloses_at r.labels (closest l q)) _ _ (λ ds h. h) (none_tells (Some r.datas))) f.links
        go (l ∷ ls) =
            let h = hash (low (last_labels (r.labels + 1) q)) in
            first_tells (Some r.datas) (hash_expanded_by h r) (λ x. either (Some r.datas) (covers_hash h x) _ _ (either (Some r.datas) x.opt_out _ _ (λ ds h. cc) (λ ds h. h)) (none_tells (Some r.datas))) (l ∷ ls)

  -- the RRset behind data that are told
  abbrev HasRrset : Option Rrset → List (List ℕ) → Type 0
  HasRrset o ds = (r : Rrset) × (o ≡ Some r) × (r.datas ≡ ds)

  some_is : (xs ys : List (List ℕ)) → Some xs ≡ Some ys → xs ≡ ys
  some_is xs ys e = cc

  inside_tells : (o : Option Rrset) → (ds : List (List ℕ))
      → data_of (elim o as (λ _. Option Verdict) [
        | None ↦ by_chain apex hash f q t
        | Some r ↦ elim (is_expanded r q) as (λ _. Option Verdict) [ false ↦ Some (Records r.datas) | true ↦ by_wildcard apex hash f r q ]
      ]) ≡ Some ds → HasRrset o ds
  inside_tells None ds h = absurd (none_some ds (chain_silent apex hash f q t ds h))
    where
      none_some : (ds : List (List ℕ)) → None ≡ Some ds → ⊥
      none_some ds e = cc
  inside_tells (Some r) ds h = (r, refl, some_is r.datas ds (go (is_expanded r q) h))
    where
      go : (b : Bool) → data_of (elim b as (λ _. Option Verdict) [ false ↦ Some (Records r.datas) | true ↦ by_wildcard apex hash f r q ]) ≡ Some ds → Some r.datas ≡ Some ds
      go false k = k
      go true k = wildcard_tells r ds k

  pub decided_tells : (v : Verdict) (ds : List (List ℕ)) → decided apex hash f q t ≡ Some v → told_data v ≡ Some ds → HasRrset f.rrset ds
  decided_tells v ds e d = go (at_or_above apex q) (ap data_of e ∙ d)
    where
      none_some : (ds : List (List ℕ)) → None ≡ Some ds → ⊥
      none_some ds e = cc

      go : (b : Bool) → data_of (elim b as (λ _. Option Verdict) [ true ↦ decided_inside apex hash f q t | false ↦ None ]) ≡ Some ds → HasRrset f.rrset ds
      go true h = inside_tells f.rrset ds h
      go false h = absurd (none_some ds h)

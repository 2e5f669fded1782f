-- Facts that show no DS at a name below the apex show whether the name is delegated.
use Rattle.std.proofs.Common.{◌≡◌, ℕ, Bool, true, false, ◌&&◌, not, List, [], ◌∷◌, Option, Some, None, refl, sym, inl, inr}
use Rattle.std.specs.List.{list_any}
use Rattle.definitions.specs.Bitmap.{bitmap_has}
use Rattle.definitions.specs.Name.{Name, at_or_above, low, same, strictly_above}
use Rattle.definitions.specs.Zone.{Verdict, NoType, NoName, StarNoType, Delegated, Open, star_under}
use Rattle.denial_laws.specs.Deciding.{by_chain, decided}
use Rattle.denial_laws.specs.Facts.{HashLink, Link}
use Rattle.denial_laws.specs.NsecRules.{at_name, at_owner, at_star, below_cut, closest, covered, denied, denies, first_some, has_more, has_nxname, is_cut, link_covers, or_else, star_lacks, tells}
use Rattle.denial_laws.specs.Nsec3Rules.{at_hash, beyond, by_closest_encloser, covers_hash, cut_above, enclosed, encloses, hash_denied, is_at, is_matched, star_at}
use Rattle.denial_laws.proofs.AtName.{on_true}
use Rattle.denial_laws.proofs.Found.{either_from, first_from, first_is, left_is, right_is}
use Rattle.denial_laws.proofs.NameFacts.{names_same, same_names, strictly_unlike}

-- something is said
abbrev pub SaysOf : Option Verdict → Type 0
SaysOf o = (v : Verdict) × (o ≡ Some v)

abbrev IsNoType : Option Verdict → Type 0
IsNoType o = o ≡ Some NoType

-- ---- a record of the name

-- by whether it has NS, DS and CNAME, and whether the name is the apex
named_by : (ns ds alias apex : Bool) → apex ≡ false
    → IsNoType (elim ((ns && not apex) && false) as (λ _. Option Verdict) [ true ↦ Some Delegated | false ↦ elim (not ds && not alias) [ true ↦ Some NoType | false ↦ None ] ])
    → SaysOf (elim ((ns && not apex) && true) as (λ _. Option Verdict) [ true ↦ Some Delegated | false ↦ elim (not ns && not alias) [ true ↦ Some NoType | false ↦ None ] ])
named_by ns ds alias true below is = absurd cc
named_by true ds alias false below is = (Delegated, refl)
named_by false ds false false below is = (NoType, refl)
named_by false true true false below is = absurd cc
named_by false false true false below is = absurd cc

module _ (apex q : Name) (below : strictly_above apex q ≡ true) where
  other : same q apex ≡ false
  other = go (same q apex) refl
    where
      go : (b : Bool) → same q apex ≡ b → b ≡ false
      go true is = absurd (strictly_unlike apex q below (names_same apex q (sym (same_names q apex is))))
      go false is = refl

  named : (bits : List ℕ) → IsNoType (at_name apex q 43 bits) → SaysOf (at_name apex q 2 bits)
  named bits is = named_by (bitmap_has bits 2) (bitmap_has bits 43) (bitmap_has bits 5) (same q apex) other is

  owned : (f : Link) → IsNoType (at_owner apex q 43 f) → SaysOf (at_owner apex q 2 f)
  owned f is = go (same f.owner q && tells f) is
    where
      go : (b : Bool) → IsNoType (elim b as (λ _. Option Verdict) [ true ↦ at_name apex q 43 f.bits | false ↦ None ]) → SaysOf (elim b as (λ _. Option Verdict) [ true ↦ at_name apex q 2 f.bits | false ↦ None ])
      go true is = named f.bits is
      go false is = absurd cc

  hashed : (h : List ℕ) (f : HashLink) → IsNoType (at_hash apex q 43 h f) → SaysOf (at_hash apex q 2 h f)
  hashed h f is = go (is_at h f) is
    where
      go : (b : Bool) → IsNoType (elim b as (λ _. Option Verdict) [ true ↦ at_name apex q 43 f.bits | false ↦ None ]) → SaysOf (elim b as (λ _. Option Verdict) [ true ↦ at_name apex q 2 f.bits | false ↦ None ])
      go true is = named f.bits is
      go false is = absurd cc

  -- ---- a record that covers it

  -- of a wildcard no type is denied but as a wildcard's
  star_unlike : (s : Name) (t : ℕ) (f : Link) → IsNoType (at_star apex s t f) → ⊥
  star_unlike s t f is = go (same f.owner s) (star_lacks f.bits t && has_more f.bits) (link_covers apex f s) (strictly_above s f.next) is
    where
      go : (a b c d : Bool) → IsNoType (elim a as (λ _. Option Verdict) [
        | true ↦ elim b [ true ↦ Some StarNoType | false ↦ None ]
        | false ↦ elim c [ true ↦ elim d [ true ↦ Some StarNoType | false ↦ Some NoName ] | false ↦ None ]
      ]) → ⊥
      go true true c d is = cc
      go true false c d is = cc
      go false b true true is = cc
      go false b true false is = cc
      go false b false d is = cc

  stars_unlike : (s : Name) (t : ℕ) (fs : List Link) → IsNoType (first_some (at_star apex s t) fs) → ⊥
  stars_unlike s t fs is = let x = first_from (at_star apex s t) fs NoType is in star_unlike s t x.0 x.1.1

  covers_so : (fs : List Link) (f : Link) → IsNoType (covered apex q 43 fs f) → SaysOf (covered apex q 2 fs f)
  covers_so fs f is = go (link_covers apex f q) (strictly_above q f.next) (closest f q) is
    where
      by_closest : (o : Option Name) → IsNoType (elim o as (λ _. Option Verdict) [ None ↦ None | Some e ↦ first_some (at_star apex (star_under e) 43) fs ]) → ⊥
      by_closest None is = cc
      by_closest (Some e) is = stars_unlike (star_under e) 43 fs is

      go : (a b : Bool) (o : Option Name)
          → IsNoType (elim a as (λ _. Option Verdict) [ true ↦ elim b [ true ↦ Some NoType | false ↦ elim o [ None ↦ None | Some e ↦ first_some (at_star apex (star_under e) 43) fs ] ] | false ↦ None ])
          → SaysOf (elim a as (λ _. Option Verdict) [ true ↦ elim b [ true ↦ Some NoType | false ↦ elim o [ None ↦ None | Some e ↦ first_some (at_star apex (star_under e) 2) fs ] ] | false ↦ None ])
      go true true o is = (NoType, refl)
      go true false o is = absurd (by_closest o is)
      go false b o is = absurd cc

  -- ---- a chain of names

  -- what is said of a name that no record denies
  abbrev undenied : ℕ → List Link → Option Verdict
  undenied t fs = or_else (first_some (at_owner apex q t) fs) (or_else (first_some (below_cut apex q) fs) (first_some (covered apex q t fs) fs))

  undenied_tell : (fs : List Link) → IsNoType (undenied 43 fs) → SaysOf (undenied 2 fs)
  undenied_tell fs is =
      let cuts = first_some (below_cut apex q) fs in
      let gaps = first_some (covered apex q 43 fs) fs in
      let later = first_some (covered apex q 2 fs) fs in
      let own = first_some (at_owner apex q 2) fs in
      elim (either_from (first_some (at_owner apex q 43) fs) (or_else cuts gaps) NoType is) [
        | inl at_it ↦
            let x = first_from (at_owner apex q 43) fs NoType at_it in
            let y = owned x.0 x.1.1 in
            let found = first_is (at_owner apex q 2) fs x.0 y.0 x.1.0 y.1 in
            left_is own (or_else cuts later) found.0 found.1
        | inr rest ↦ elim (either_from cuts gaps NoType rest.1) [
          | inl cut ↦ let found = left_is cuts later NoType cut in right_is own (or_else cuts later) found.0 found.1
          | inr gap ↦
              let x = first_from (covered apex q 43 fs) fs NoType gap.1 in
              let y = covers_so fs x.0 x.1.1 in
              let found = first_is (covered apex q 2 fs) fs x.0 y.0 x.1.0 y.1 in
              let behind = right_is cuts later found.0 found.1 in
              right_is own (or_else cuts later) behind.0 behind.1
        ]
      ]

  names_tell : (fs : List Link) → IsNoType (denied apex q 43 fs) → SaysOf (denied apex q 2 fs)
  names_tell fs is = elim (either_from (first_some (denies q) fs) (undenied 43 fs) NoType is) [
    | inl none ↦
        let x = first_from (denies q) fs NoType none in
        let r = on_true (same x.0.owner q && has_nxname x.0.bits) (Some NoName) NoType x.1.1 in
        let wrong : Some NoName ≡ Some NoType = r.1 in
        absurd cc
    | inr rest ↦
        let told = undenied_tell fs rest.1 in
        right_is (first_some (denies q) fs) (undenied 2 fs) told.0 told.1
  ]

  -- ---- a chain of hashes

  module _ (hash : Name → List ℕ) (t : ℕ) (fs : List HashLink) where
    at_star_unlike : (h : List ℕ) (f : HashLink) → IsNoType (star_at h t f) → ⊥
    at_star_unlike h f is = go (is_at h f) (star_lacks f.bits t) (covers_hash h f) is
      where
        go : (a b c : Bool) → IsNoType (elim a as (λ _. Option Verdict) [ true ↦ elim b [ true ↦ Some StarNoType | false ↦ None ] | false ↦ elim c [ true ↦ Some NoName | false ↦ None ] ]) → ⊥
        go true true c is = cc
        go true false c is = cc
        go false b true is = cc
        go false b false is = cc

    beyond_unlike : (e : Name) (h : List ℕ) (f : HashLink) → IsNoType (beyond hash e t fs h f) → ⊥
    beyond_unlike e h f is = go (covers_hash h f) f.opt_out is
      where
        stars : IsNoType (first_some (star_at (hash (low (star_under e))) t) fs) → ⊥
        stars is = let x = first_from (star_at (hash (low (star_under e))) t) fs NoType is in at_star_unlike (hash (low (star_under e))) x.0 x.1.1

        go : (a b : Bool) → IsNoType (elim a as (λ _. Option Verdict) [ true ↦ elim b [ true ↦ Some Open | false ↦ first_some (star_at (hash (low (star_under e))) t) fs ] | false ↦ None ]) → ⊥
        go true true is = cc
        go true false is = stars is
        go false b is = cc

    cut_unlike : (p : Name) (h : List ℕ) (f : HashLink) → IsNoType (cut_above apex p h f) → ⊥
    cut_unlike p h f is = go (encloses h f && is_cut apex p f.bits) is
      where
        go : (b : Bool) → IsNoType (elim b as (λ _. Option Verdict) [ true ↦ Some Delegated | false ↦ None ]) → ⊥
        go true is = cc
        go false is = cc

    enclosed_unlike : (closer e : Name) → IsNoType (enclosed apex hash closer e t fs) → ⊥
    enclosed_unlike closer e is =
        elim (either_from (first_some (cut_above apex e (hash (low e))) fs) (elim (list_any (encloses (hash (low e))) fs) as (λ _. Option Verdict) [ true ↦ first_some (beyond hash e t fs (hash (low closer))) fs | false ↦ None ]) NoType is) [
          | inl cut ↦ let x = first_from (cut_above apex e (hash (low e))) fs NoType cut in cut_unlike e (hash (low e)) x.0 x.1.1
          | inr rest ↦ go (list_any (encloses (hash (low e))) fs) rest.1
        ]
      where
        go : (b : Bool) → IsNoType (elim b as (λ _. Option Verdict) [ true ↦ first_some (beyond hash e t fs (hash (low closer))) fs | false ↦ None ]) → ⊥
        go true is = let x = first_from (beyond hash e t fs (hash (low closer))) fs NoType is in beyond_unlike e (hash (low closer)) x.0 x.1.1
        go false is = cc

    climbed_unlike : (n : Name) → IsNoType (by_closest_encloser apex hash n t fs) → ⊥
    climbed_unlike [] is = cc
    climbed_unlike (l ∷ p) is = go (same (l ∷ p) apex) (is_matched fs (hash (low p))) is (climbed_unlike p)
      where
        go : (a b : Bool) → IsNoType (elim a as (λ _. Option Verdict) [ true ↦ None | false ↦ elim b [ true ↦ enclosed apex hash (l ∷ p) p t fs | false ↦ by_closest_encloser apex hash p t fs ] ])
            → (IsNoType (by_closest_encloser apex hash p t fs) → ⊥) → ⊥
        go true b is later = cc
        go false true is later = enclosed_unlike (l ∷ p) p is
        go false false is later = later is

  hashes_tell : (hash : Name → List ℕ) (fs : List HashLink) → IsNoType (hash_denied apex hash q 43 fs) → SaysOf (hash_denied apex hash q 2 fs)
  hashes_tell hash fs is = go (is_matched fs (hash (low q))) is
    where
      matched : IsNoType (first_some (at_hash apex q 43 (hash (low q))) fs) → SaysOf (first_some (at_hash apex q 2 (hash (low q))) fs)
      matched is =
          let x = first_from (at_hash apex q 43 (hash (low q))) fs NoType is in
          let y = hashed (hash (low q)) x.0 x.1.1 in
          first_is (at_hash apex q 2 (hash (low q))) fs x.0 y.0 x.1.0 y.1

      go : (b : Bool) → IsNoType (elim b as (λ _. Option Verdict) [ true ↦ first_some (at_hash apex q 43 (hash (low q))) fs | false ↦ by_closest_encloser apex hash q 43 fs ])
          → SaysOf (elim b as (λ _. Option Verdict) [ true ↦ first_some (at_hash apex q 2 (hash (low q))) fs | false ↦ by_closest_encloser apex hash q 2 fs ])
      go true is = matched is
      go false is = absurd (climbed_unlike hash 43 fs q is)

  -- ---- whichever

  chains_tell : (hash : Name → List ℕ) (ks : List Link) (fs : List HashLink)
      → IsNoType (by_chain apex hash (record { rrset = None; links = ks; hash_links = fs }) q 43) → SaysOf (by_chain apex hash (record { rrset = None; links = ks; hash_links = fs }) q 2)
  chains_tell hash ks [] is = names_tell ks is
  chains_tell hash ks (f ∷ fs) is = hashes_tell hash (f ∷ fs) is

  pub facts_tell : (hash : Name → List ℕ) (ks : List Link) (fs : List HashLink)
      → IsNoType (decided apex hash (record { rrset = None; links = ks; hash_links = fs }) q 43) → SaysOf (decided apex hash (record { rrset = None; links = ks; hash_links = fs }) q 2)
  facts_tell hash ks fs is = go (at_or_above apex q) is
    where
      go : (b : Bool) → IsNoType (elim b as (λ _. Option Verdict) [ true ↦ by_chain apex hash (record { rrset = None; links = ks; hash_links = fs }) q 43 | false ↦ None ])
          → SaysOf (elim b as (λ _. Option Verdict) [ true ↦ by_chain apex hash (record { rrset = None; links = ks; hash_links = fs }) q 2 | false ↦ None ])
      go true is = chains_tell hash ks fs is
      go false is = absurd cc

-- What facts decide depends neither on the case of the names in links nor on that of the name that is asked for.
use Rattle.std.proofs.Common.{◌≡◌, ℕ, zero, suc, ◌+◌, ◌-◌, Bool, true, false, ◌&&◌, ◌||◌, not, List, [], ◌∷◌, map, length, drop, reverse, Option, Some, None, refl, ap, ◌∙◌}
use Rattle.std.specs.Prelude.{nat_lt, ◌==◌, if◌then◌else◌}
use Rattle.std.specs.Option.{option_map}
use Rattle.std.specs.List.{list_any}
use Rattle.std.specs.Ordering.{is_lt, nat_cmp}
use Rattle.std.specs.Cmp.Lexicographic.{slice_cmp}
use Rattle.std.specs.Str.{str_to_ascii_lowercase}
use Rattle.std.proofs.lemmas.List.{length-map}
use Rattle.definitions.specs.Name.{Name, low, from_root, labels_eq, same, at_or_above, strictly_above}
use Rattle.definitions.specs.Covering.{covers}
use Rattle.definitions.specs.Bitmap.{bitmap_has}
use Rattle.definitions.specs.Zone.{Verdict, Records, NoType, NoName, StarRecords, StarNoType, Delegated, Open, star_under}
use Rattle.definitions.proofs.ZoneNames.{low-low, above_lowered, lowered_above}
use Rattle.denial_laws.specs.Facts.{Rrset, Link, HashLink, Facts, is_expanded}
use Rattle.denial_laws.specs.NsecRules.{first_some, or_else, has_nxname, has_more, tells, shown_owner, denies, is_cut, lacks, star_lacks, at_name, at_owner, below_cut, link_covers, closest, at_star, covered, denied, encloses_at, expanded_by}
use Rattle.denial_laws.specs.Nsec3Rules.{is_at, covers_hash, is_matched, at_hash, encloses, cut_above, star_at, beyond, enclosed, by_closest_encloser, hash_denied, last_labels, hash_expanded_by, hash_expanded}
use Rattle.denial_laws.specs.Deciding.{by_chain, by_wildcard, decided_inside, decided}
use Rattle.denial_laws.proofs.NameFacts.{strictly_lowered}
use Rattle.answer_terms.specs.FactsCase.{low_link, low_facts, IsCaseless}
use Rattle.answer_terms.proofs.ZoneData.{label_count-low}

-- ---- one of two names lowered

same_first : (a b : Name) → same (low a) b ≡ same a b
same_first a b i = labels_eq (low-low a i) (low b)

same_second : (a b : Name) → same a (low b) ≡ same a b
same_second a b i = labels_eq (low a) (low-low b i)

strictly_first : (a b : Name) → strictly_above (low a) b ≡ strictly_above a b
strictly_first a [] = refl
strictly_first a (l ∷ b) = lowered_above a b

is_cut_lowered : (apex o : Name) (bits : List ℕ) → is_cut apex (low o) bits ≡ is_cut apex o bits
is_cut_lowered apex o bits i = bitmap_has bits 2 && not (same_first o apex i)

parent_lowered : (o : Name) → drop 1 (low o) ≡ low (drop 1 o)
parent_lowered [] = refl
parent_lowered (l ∷ o) = refl

-- the first answer is one where the answers are
first_alike : {A B : Type 0} (f g : A → Option B) → ((x : A) → f x ≡ g x) → (xs : List A) → first_some f xs ≡ first_some g xs
first_alike f g e [] = refl
first_alike f g e (x ∷ xs) = λ i. elim (e x i) [ None ↦ first_alike f g e xs i | Some y ↦ Some y ]

first_mapped : {A B C : Type 0} (f : B → Option C) (g : A → Option C) (h : A → B) → ((x : A) → f (h x) ≡ g x) → (xs : List A) → first_some f (map h xs) ≡ first_some g xs
first_mapped f g h e [] = refl
first_mapped f g h e (x ∷ xs) = λ i. elim (e x i) [ None ↦ first_mapped f g h e xs i | Some y ↦ Some y ]

-- ---- links lowered

module _ (apex : Name) where
  denies_linked : (q : Name) (f : Link) → denies q (low_link f) ≡ denies q f
  denies_linked q f i = elim (same_first f.owner q i && has_nxname f.bits) [ true ↦ Some NoName | false ↦ None ]

  tells_linked : (f : Link) → tells (low_link f) ≡ tells f
  tells_linked f i = has_more f.bits || labels_eq (low-low f.next i) (str_to_ascii_lowercase (0 ∷ []) ∷ low-low f.owner i)

  owner_linked : (q : Name) (t : ℕ) (f : Link) → at_owner apex q t (low_link f) ≡ at_owner apex q t f
  owner_linked q t f i = elim (same_first f.owner q i && tells_linked f i) [ true ↦ at_name apex q t f.bits | false ↦ None ]

  cut_linked : (q : Name) (f : Link) → below_cut apex q (low_link f) ≡ below_cut apex q f
  cut_linked q f i = elim (is_cut_lowered apex f.owner f.bits i && strictly_first f.owner q i && not (bitmap_has f.bits 39)) [ true ↦ Some Delegated | false ↦ None ]

  between_linked : (owner next q : Name) → covers apex (low owner) (low next) q ≡ covers apex owner next q
  between_linked owner next q i =
      is_lt (slice_cmp (slice_cmp nat_cmp) (reverse (low-low owner i)) (from_root q))
      && (labels_eq (low-low next i) (low apex) || is_lt (slice_cmp (slice_cmp nat_cmp) (from_root q) (reverse (low-low next i))))

  covers_linked : (q : Name) (f : Link) → link_covers apex (low_link f) q ≡ link_covers apex f q
  covers_linked q f i = between_linked f.owner f.next q i && not (strictly_first f.owner q i && bitmap_has f.bits 39)

  shown_linked : (f : Link) → shown_owner (low_link f) ≡ low (shown_owner f)
  shown_linked f = go (has_more f.bits)
    where
      go : (b : Bool) → (if b then low f.owner else drop 1 (low f.owner)) ≡ low (if b then f.owner else drop 1 f.owner)
      go true = refl
      go false = parent_lowered f.owner

  owner_shows : (p : Name) (f : Link) → at_or_above p (shown_owner (low_link f)) ≡ at_or_above p (shown_owner f)
  owner_shows p f = ap (at_or_above p) (shown_linked f) ∙ above_lowered p (shown_owner f)

  closest_linked : (q : Name) (f : Link) → closest (low_link f) q ≡ closest f q
  closest_linked [] f = refl
  closest_linked (l ∷ q) f = λ i. elim (owner_shows q f i || above_lowered q f.next i) [ true ↦ Some q | false ↦ closest_linked q f i ]

  star_linked : (s : Name) (t : ℕ) (f : Link) → at_star apex s t (low_link f) ≡ at_star apex s t f
  star_linked s t f i = elim (same_first f.owner s i) [
    | true ↦ elim (star_lacks f.bits t && has_more f.bits) [ true ↦ Some StarNoType | false ↦ None ]
    | false ↦ elim (covers_linked s f i) [
      | true ↦ elim (strictly_lowered s f.next i) [ true ↦ Some StarNoType | false ↦ Some NoName ]
      | false ↦ None
    ]
  ]

  covered_linked : (q : Name) (t : ℕ) (fs : List Link) (f : Link) → covered apex q t (map low_link fs) (low_link f) ≡ covered apex q t fs f
  covered_linked q t fs f i = elim (covers_linked q f i) [
    | true ↦ elim (strictly_lowered q f.next i) [
      | true ↦ Some NoType
      | false ↦ elim (closest_linked q f i) [ None ↦ None | Some e ↦ first_mapped (at_star apex (star_under e) t) (at_star apex (star_under e) t) low_link (star_linked (star_under e) t) fs i ]
    ]
    | false ↦ None
  ]

  denied_linked : (q : Name) (t : ℕ) (fs : List Link) → denied apex q t (map low_link fs) ≡ denied apex q t fs
  denied_linked q t fs i =
      or_else (first_mapped (denies q) (denies q) low_link (denies_linked q) fs i)
      (or_else (first_mapped (at_owner apex q t) (at_owner apex q t) low_link (owner_linked q t) fs i)
      (or_else (first_mapped (below_cut apex q) (below_cut apex q) low_link (cut_linked q) fs i)
      (first_mapped (covered apex q t (map low_link fs)) (covered apex q t fs) low_link (covered_linked q t fs) fs i)))

  expanding_linked : (q : Name) (r : Rrset) (f : Link) → expanded_by apex q r (low_link f) ≡ expanded_by apex q r f
  expanding_linked q r f i = elim (covers_linked q f i && not (strictly_lowered q f.next i) && encloses_at r.labels (closest_linked q f i)) [ true ↦ Some (StarRecords r.datas) | false ↦ None ]

  chain_linked : (hash : Name → List ℕ) (f : Facts) (q : Name) (t : ℕ) → by_chain apex hash (low_facts f) q t ≡ by_chain apex hash f q t
  chain_linked hash f q t i = elim f.hash_links [ [] ↦ denied_linked q t f.links i | _ ∷ _ ↦ hash_denied apex hash q t f.hash_links ]

  wildcard_linked : (hash : Name → List ℕ) (f : Facts) (r : Rrset) (q : Name) → by_wildcard apex hash (low_facts f) r q ≡ by_wildcard apex hash f r q
  wildcard_linked hash f r q i = elim f.hash_links [ [] ↦ first_mapped (expanded_by apex q r) (expanded_by apex q r) low_link (expanding_linked q r) f.links i | _ ∷ _ ↦ hash_expanded hash q r f.hash_links ]

  inside_linked : (hash : Name → List ℕ) (f : Facts) (q : Name) (t : ℕ) → decided_inside apex hash (low_facts f) q t ≡ decided_inside apex hash f q t
  inside_linked hash f q t i = elim f.rrset [
    | None ↦ chain_linked hash f q t i
    | Some r ↦ elim (is_expanded r q) [ false ↦ Some (Records r.datas) | true ↦ wildcard_linked hash f r q i ]
  ]

  -- the case of owners and next names means nothing
  pub links_lowered : (hash : Name → List ℕ) (f : Facts) (q : Name) (t : ℕ) → decided apex hash (low_facts f) q t ≡ decided apex hash f q t
  links_lowered hash f q t i = elim (at_or_above apex q) [ true ↦ inside_linked hash f q t i | false ↦ None ]

-- ---- the name lowered

star_shown : (f : Link) (q : Name) (b : Bool) (x y : Option Name) → x ≡ option_map low y → (elim b as (λ _. Option Name) [ true ↦ Some (low q) | false ↦ x ]) ≡ option_map low (elim b as (λ _. Option Name) [ true ↦ Some q | false ↦ y ])
star_shown f q true x y e = refl
star_shown f q false x y e = e

closest_named : (q : Name) (f : Link) → closest f (low q) ≡ option_map low (closest f q)
closest_named [] f = refl
closest_named (l ∷ q) f =
    (λ i. elim (lowered_above q (shown_owner f) i || lowered_above q f.next i) as (λ _. Option Name) [ true ↦ Some (low q) | false ↦ closest f (low q) ])
    ∙ star_shown f q (at_or_above q (shown_owner f) || at_or_above q f.next) (closest f (low q)) (closest f q) (closest_named q f)

encloses_named : (n : ℕ) (o : Option Name) → encloses_at n (option_map low o) ≡ encloses_at n o
encloses_named n None = refl
encloses_named n (Some e) = ap (λ k. k == n) (length-map e str_to_ascii_lowercase)

drop_lowered : (k : ℕ) (q : Name) → low (drop k (low q)) ≡ low (drop k q)
drop_lowered zero q = low-low q
drop_lowered (suc k) [] = refl
drop_lowered (suc k) (l ∷ q) = drop_lowered k q

last_lowered : (n : ℕ) (q : Name) → low (last_labels n (low q)) ≡ low (last_labels n q)
last_lowered n q = ap (λ k. low (drop (k - n) (low q))) (length-map q str_to_ascii_lowercase) ∙ drop_lowered (length q - n) q

module _ (apex : Name) where
  name_named : (q : Name) (t : ℕ) (bits : List ℕ) → at_name apex (low q) t bits ≡ at_name apex q t bits
  name_named q t bits i = elim (is_cut_lowered apex q bits i && not (t == 43)) [
    | true ↦ Some Delegated
    | false ↦ elim (lacks bits t) [ true ↦ Some NoType | false ↦ None ]
  ]

  denies_named : (q : Name) (f : Link) → denies (low q) f ≡ denies q f
  denies_named q f i = elim (same_second f.owner q i && has_nxname f.bits) [ true ↦ Some NoName | false ↦ None ]

  owner_named : (q : Name) (t : ℕ) (f : Link) → at_owner apex (low q) t f ≡ at_owner apex q t f
  owner_named q t f i = elim (same_second f.owner q i && tells f) [ true ↦ name_named q t f.bits i | false ↦ None ]

  cut_named : (q : Name) (f : Link) → below_cut apex (low q) f ≡ below_cut apex q f
  cut_named q f i = elim (is_cut apex f.owner f.bits && strictly_lowered f.owner q i && not (bitmap_has f.bits 39)) [ true ↦ Some Delegated | false ↦ None ]

  covers_named : (q : Name) (f : Link) → link_covers apex f (low q) ≡ link_covers apex f q
  covers_named q f i =
      is_lt (slice_cmp (slice_cmp nat_cmp) (from_root f.owner) (reverse (low-low q i)))
      && (same f.next apex || is_lt (slice_cmp (slice_cmp nat_cmp) (reverse (low-low q i)) (from_root f.next)))
      && not (strictly_lowered f.owner q i && bitmap_has f.bits 39)

  star_named : (s : Name) (t : ℕ) (f : Link) → at_star apex (low s) t f ≡ at_star apex s t f
  star_named s t f i = elim (same_second f.owner s i) [
    | true ↦ elim (star_lacks f.bits t && has_more f.bits) [ true ↦ Some StarNoType | false ↦ None ]
    | false ↦ elim (covers_named s f i) [
      | true ↦ elim (strictly_first s f.next i) [ true ↦ Some StarNoType | false ↦ Some NoName ]
      | false ↦ None
    ]
  ]

  abbrev by_star : ℕ → List Link → Option Name → Option Verdict
  by_star t fs None = None
  by_star t fs (Some e) = first_some (at_star apex (star_under e) t) fs

  stars_named : (t : ℕ) (fs : List Link) (o : Option Name) → by_star t fs (option_map low o) ≡ by_star t fs o
  stars_named t fs None = refl
  stars_named t fs (Some e) = first_alike (at_star apex (star_under (low e)) t) (at_star apex (star_under e) t) (star_named (star_under e) t) fs

  covered_named : (q : Name) (t : ℕ) (fs : List Link) (f : Link) → covered apex (low q) t fs f ≡ covered apex q t fs f
  covered_named q t fs f =
      let wild : by_star t fs (closest f (low q)) ≡ by_star t fs (closest f q) = ap (by_star t fs) (closest_named q f) ∙ stars_named t fs (closest f q) in
      (λ i. elim (covers_named q f i) [
        | true ↦ elim (strictly_first q f.next i) [ true ↦ Some NoType | false ↦ wild i ]
        | false ↦ None
      ])

  denied_named : (q : Name) (t : ℕ) (fs : List Link) → denied apex (low q) t fs ≡ denied apex q t fs
  denied_named q t fs i =
      or_else (first_alike (denies (low q)) (denies q) (denies_named q) fs i)
      (or_else (first_alike (at_owner apex (low q) t) (at_owner apex q t) (owner_named q t) fs i)
      (or_else (first_alike (below_cut apex (low q)) (below_cut apex q) (cut_named q) fs i)
      (first_alike (covered apex (low q) t fs) (covered apex q t fs) (covered_named q t fs) fs i)))

  expanding_named : (q : Name) (r : Rrset) (f : Link) → expanded_by apex (low q) r f ≡ expanded_by apex q r f
  expanding_named q r f =
      let enclosing : encloses_at r.labels (closest f (low q)) ≡ encloses_at r.labels (closest f q) = ap (encloses_at r.labels) (closest_named q f) ∙ encloses_named r.labels (closest f q) in
      (λ i. elim (covers_named q f i && not (strictly_first q f.next i) && enclosing i) [ true ↦ Some (StarRecords r.datas) | false ↦ None ])

  module _ (hash : Name → List ℕ) (t : ℕ) (fs : List HashLink) where
    beyond_named : (e : Name) (h : List ℕ) (f : HashLink) → beyond hash (low e) t fs h f ≡ beyond hash e t fs h f
    beyond_named e h f i = elim (covers_hash h f) [
      | true ↦ elim f.opt_out [ true ↦ Some Open | false ↦ first_some (star_at (hash (low-low (star_under e) i)) t) fs ]
      | false ↦ None
    ]

    cut_hashed : (p : Name) (h : List ℕ) (f : HashLink) → cut_above apex (low p) h f ≡ cut_above apex p h f
    cut_hashed p h f i = elim (encloses h f && is_cut_lowered apex p f.bits i) [ true ↦ Some Delegated | false ↦ None ]

    hash_named : (q : Name) → hash (low (low q)) ≡ hash (low q)
    hash_named q = ap hash (low-low q)

    enclosed_named : (closer e : Name) → enclosed apex hash (low closer) (low e) t fs ≡ enclosed apex hash closer e t fs
    enclosed_named closer e i =
        or_else ((ap (λ h. first_some (cut_above apex (low e) h) fs) (hash_named e) ∙ first_alike (cut_above apex (low e) (hash (low e))) (cut_above apex e (hash (low e))) (cut_hashed e (hash (low e))) fs) i)
        (elim (list_any (encloses (hash_named e i)) fs) [
          | true ↦ (ap (λ h. first_some (beyond hash (low e) t fs h) fs) (hash_named closer) ∙ first_alike (beyond hash (low e) t fs (hash (low closer))) (beyond hash e t fs (hash (low closer))) (beyond_named e (hash (low closer))) fs) i
          | false ↦ None
        ])

    climbed_named : (q : Name) → by_closest_encloser apex hash (low q) t fs ≡ by_closest_encloser apex hash q t fs
    climbed_named [] = refl
    climbed_named (l ∷ p) = λ i. elim (same_first (l ∷ p) apex i) [
      | true ↦ None
      | false ↦ elim (is_matched fs (hash_named p i)) [
        | true ↦ enclosed_named (l ∷ p) p i
        | false ↦ climbed_named p i
      ]
    ]

    hashed_at : (q : Name) (h : List ℕ) (f : HashLink) → at_hash apex (low q) t h f ≡ at_hash apex q t h f
    hashed_at q h f i = elim (is_at h f) [ true ↦ name_named q t f.bits i | false ↦ None ]

    hash_denied_named : (q : Name) → hash_denied apex hash (low q) t fs ≡ hash_denied apex hash q t fs
    hash_denied_named q i = elim (is_matched fs (hash_named q i)) [
      | true ↦ (ap (λ h. first_some (at_hash apex (low q) t h) fs) (hash_named q) ∙ first_alike (at_hash apex (low q) t (hash (low q))) (at_hash apex q t (hash (low q))) (hashed_at q (hash (low q))) fs) i
      | false ↦ climbed_named q i
    ]

  hash_expanded_named : (hash : Name → List ℕ) (q : Name) (r : Rrset) (fs : List HashLink) → hash_expanded hash (low q) r fs ≡ hash_expanded hash q r fs
  hash_expanded_named hash q r fs = ap (λ n. first_some (hash_expanded_by (hash n) r) fs) (last_lowered (r.labels + 1) q)

  chain_named : (hash : Name → List ℕ) (f : Facts) (q : Name) (t : ℕ) → by_chain apex hash f (low q) t ≡ by_chain apex hash f q t
  chain_named hash f q t i = elim f.hash_links [ [] ↦ denied_named q t f.links i | _ ∷ _ ↦ hash_denied_named hash t f.hash_links q i ]

  wildcard_named : (hash : Name → List ℕ) (f : Facts) (r : Rrset) (q : Name) → by_wildcard apex hash f r (low q) ≡ by_wildcard apex hash f r q
  wildcard_named hash f r q i = elim f.hash_links [ [] ↦ first_alike (expanded_by apex (low q) r) (expanded_by apex q r) (expanding_named q r) f.links i | _ ∷ _ ↦ hash_expanded_named hash q r f.hash_links i ]

  inside_named : (hash : Name → List ℕ) (f : Facts) (q : Name) (t : ℕ) → decided_inside apex hash f (low q) t ≡ decided_inside apex hash f q t
  inside_named hash f q t i = elim f.rrset [
    | None ↦ chain_named hash f q t i
    | Some r ↦ elim (nat_lt r.labels (label_count-low q i)) [ false ↦ Some (Records r.datas) | true ↦ wildcard_named hash f r q i ]
  ]

  -- the case of the name that is asked for means nothing
  pub name_lowered : (hash : Name → List ℕ) (f : Facts) (q : Name) (t : ℕ) → decided apex hash f (low q) t ≡ decided apex hash f q t
  name_lowered hash f q t i = elim (above_lowered apex q i) [ true ↦ inside_named hash f q t i | false ↦ None ]

pub caseless : (apex : Name) (hash : Name → List ℕ) (f : Facts) (q : Name) (t : ℕ) → IsCaseless apex hash f q t
caseless apex hash f q t = record { links = links_lowered apex hash f q t; name = name_lowered apex hash f q t }

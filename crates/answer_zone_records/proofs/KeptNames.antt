-- The owners of groups that are kept, by their first records.
use Rattle.std.proofs.Common.{◌≡◌, Bool, true, false, ◌&&◌, ◌||◌, List, [], ◌∷◌, ◌++◌, map, cond, Some, refl, sym, ap, subst, ◌∙◌}
use Rattle.std.specs.Prelude.{nat_eq}
use Rattle.std.specs.List.{AllByRecursion, filter, flat_map, list_any, slice_get}
use Rattle.std.specs.Option.{option_map}
use Rattle.std.specs.Cmp.Lexicographic.{slice_cmp}
use Rattle.std.specs.List.Sorted.{IsStrictlySortedBy}
use Rattle.std.specs.Ordering.{nat_cmp, ordering_then}
use Rattle.std.specs.declared.cmp.Ordering.{Ordering}
use Rattle.std.specs.declared.cmp.Ordering.TheVariants.{Less, Greater}
use Rattle.std.proofs.lemmas.List.Folds.{list_any-append}
use Rattle.definitions.specs.Name.{Name, at_or_above, low, name_cmp, same}
use Rattle.definitions.specs.Zone.{Zone, is_kept, owners}
use Rattle.definitions.proofs.Members.{any_kept}
use Rattle.definitions.proofs.ZoneNames.{above_lowered, and_parts}
use Rattle.denial_laws.proofs.NameFacts.{same_names}
use Rattle.messages.proofs.Lists.{list_any-map}
use Rattle.plain.specs.declared.record.Record.{Record}
use Rattle.plain.specs.declared.zone_data.ZoneRecordData.{ZoneRecordData}
use Rattle.plain.specs.ZoneData.{zone_canonical, zone_type}
use Rattle.denial_rrsets.specs.Groups.{IsGroup, group_owner, groups, of_one_owner}
use Rattle.denial_rrsets.specs.Partitions.{IsPartition}
use Rattle.denial_chain_owners.specs.Kept.{kept_groups}
use Rattle.messages.specs.HandedRr.{handed_of}
use Rattle.answer_terms.specs.Accepting.{record_cmp, zone_with}
use Rattle.answer_terms.proofs.Climbing.{rising_parts}
use Rattle.answer_zone_records.specs.Near.{AreRising}
use Rattle.answer_zone_records.specs.KeptNames.{KeepsNames}
use Rattle.answer_zone_records.specs.OwnedRecords.{IsInternet}
use Rattle.answer_zone_records.proofs.ZoneOrder.{one_class, zone_cmp}
use Rattle.answer_zone_records.proofs.ZoneWords.{zone_is}

-- ---- items in order, some of them

all_some : {A : Type 0} (P : A → Type 0) (p : A → Bool) (xs : List A) → AllByRecursion P xs → AllByRecursion P (filter p xs)
all_some P p [] h = tt
all_some P p (x ∷ xs) h = elim (p x) as (λ b. AllByRecursion P (cond b (x ∷ filter p xs) (filter p xs))) [ true ↦ (h.0, all_some P p xs h.1) | false ↦ all_some P p xs h.1 ]

some_rise : {A : Type 0} (f : A → Name) (p : A → Bool) (xs : List A) → AreRising f xs → AreRising f (filter p xs)
some_rise f p [] r = tt
some_rise f p (x ∷ xs) r = elim (p x) as (λ b. AreRising f (cond b (x ∷ filter p xs) (filter p xs))) [ true ↦ (all_some (λ y. name_cmp (f x) (f y) ≡ Greater → ⊥) p xs r.0, some_rise f p xs r.1) | false ↦ some_rise f p xs r.1 ]

map_rises : {A : Type 0} (f : A → Name) (xs : List A) → AreRising f xs → AreRising (λ (n : Name). n) (map f xs)
map_rises f [] r = tt
map_rises {A = A} f (x ∷ xs) r = (all_map xs r.0, map_rises f xs r.1)
  where
    all_map : (ys : List A) → AllByRecursion (λ y. name_cmp (f x) (f y) ≡ Greater → ⊥) ys → AllByRecursion (λ n. name_cmp (f x) n ≡ Greater → ⊥) (map f ys)
    all_map [] h = tt
    all_map (y ∷ ys) h = (h.0, all_map ys h.1)

-- ---- tests of some items, and of the later ones

any_some : {A : Type 0} (k p : A → Bool) (xs : List A) → list_any p (filter k xs) ≡ list_any (λ x. k x && p x) xs
any_some k p [] = refl
any_some k p (x ∷ xs) = elim (k x) as (λ b. list_any p (cond b (x ∷ filter k xs) (filter k xs)) ≡ ((b && p x) || list_any (λ x. k x && p x) xs)) [ true ↦ ap (λ c. p x || c) (any_some k p xs) | false ↦ any_some k p xs ]

any_agree : {A : Type 0} (p q : A → Bool) → ((x : A) → p x ≡ q x) → (xs : List A) → list_any p xs ≡ list_any q xs
any_agree p q h [] = refl
any_agree p q h (x ∷ xs) = λ i. h x i || any_agree p q h xs i

all_right : {A : Type 0} (P : A → Type 0) (xs ys : List A) → AllByRecursion P (xs ++ ys) → AllByRecursion P ys
all_right P [] ys h = h
all_right P (x ∷ xs) ys h = all_right P xs ys h.1

rise_right : {A : Type 0} (f : A → Name) (xs ys : List A) → AreRising f (xs ++ ys) → AreRising f ys
rise_right f [] ys r = r
rise_right f (x ∷ xs) ys r = rise_right f xs ys r.1

-- ---- groups

module _ {D : Type 0} where
  abbrev pub lead : List (Record Name D) → Name
  lead [] = []
  lead (r ∷ rs) = r.owner

  lead_low : (g : List (Record Name D)) → group_owner (λ n. n) g ≡ low (lead g)
  lead_low [] = refl
  lead_low (r ∷ rs) = refl

  abbrev Grouped : List (List (Record Name D)) → Type 0
  Grouped gs = AllByRecursion (IsGroup (of_one_owner (λ n. n))) gs

  -- a test of lowered owners holds of some record of a group where it holds of the first
  any_group : (G : Name → Bool) (g : List (Record Name D)) → IsGroup (of_one_owner (λ n. n)) g → list_any (λ (r : Record Name D). G (low r.owner)) g ≡ G (low (lead g))
  any_group G [] h = absurd h
  any_group G (r ∷ rs) h = go (G (low r.owner)) refl
    where
      alike : (b : Bool) (ys : List (Record Name D)) → G (low r.owner) ≡ b → AllByRecursion (λ y. of_one_owner (λ n. n) r y ≡ true) ys → b ≡ false → list_any (λ (r : Record Name D). G (low r.owner)) ys ≡ false
      alike b [] e k off = refl
      alike b (y ∷ ys) e k off =
          let one : low r.owner ≡ low y.owner = same_names r.owner y.owner (and_parts (nat_eq r.class y.class) (same r.owner y.owner) k.0).1 in
          (λ i. (ap G (sym one) ∙ e ∙ off) i || alike b ys e k.1 off i)

      go : (b : Bool) → G (low r.owner) ≡ b → (b || list_any (λ (r : Record Name D). G (low r.owner)) rs) ≡ b
      go true e = refl
      go false e = alike false rs e h refl

  any_groups : (G : Name → Bool) (gs : List (List (Record Name D))) → Grouped gs → list_any (λ (r : Record Name D). G (low r.owner)) (flat_map (λ g. g) gs) ≡ list_any (λ g. G (low (lead g))) gs
  any_groups G [] h = refl
  any_groups G (g ∷ gs) h = list_any-append (λ (r : Record Name D). G (low r.owner)) g (flat_map (λ g. g) gs) ∙ (λ i. any_group G g h.0 i || any_groups G gs h.1 i)

  -- a name is at or above a kept owner where it is at or above the owner of a kept group
  pub shows_kept : (z : Zone) (a : Name) (rs : List (Record Name D)) (gs : List (List (Record Name D))) → flat_map (λ g. g) gs ≡ rs → Grouped gs
      → list_any (at_or_above a) (filter (is_kept z true) (map (λ r. low r.owner) rs)) ≡ list_any (at_or_above a) (map lead (filter (λ g. is_kept z true (group_owner (λ n. n) g)) gs))
  shows_kept z a rs gs whole h =
      let G : Name → Bool = λ n. is_kept z true n && at_or_above a n in
      any_kept (is_kept z true) (at_or_above a) (λ (r : Record Name D). low r.owner) rs
      ∙ ap (list_any (λ (r : Record Name D). G (low r.owner))) (sym whole)
      ∙ any_groups G gs h
      ∙ any_agree (λ g. G (low (lead g))) (λ g. is_kept z true (group_owner (λ n. n) g) && at_or_above a (lead g)) (λ g. λ i. is_kept z true (sym (lead_low g) i) && above_lowered a (lead g) i) gs
      ∙ sym (any_some (λ g. is_kept z true (group_owner (λ n. n) g)) (λ g. at_or_above a (lead g)) gs)
      ∙ sym (list_any-map (at_or_above a) lead (filter (λ g. is_kept z true (group_owner (λ n. n) g)) gs))

  -- ---- their order

  all_leads : (P : Name → Type 0) (gs : List (List (Record Name D))) → Grouped gs → AllByRecursion (λ (r : Record Name D). P r.owner) (flat_map (λ g. g) gs) → AllByRecursion (λ g. P (lead g)) gs
  all_leads P [] h k = tt
  all_leads P ([] ∷ gs) h k = absurd h.0
  all_leads P ((r ∷ rs) ∷ gs) h k = (k.0, all_leads P gs h.1 (all_right (λ (r : Record Name D). P r.owner) rs (flat_map (λ g. g) gs) k.1))

  leads_rise : (gs : List (List (Record Name D))) → Grouped gs → AreRising (λ (r : Record Name D). r.owner) (flat_map (λ g. g) gs) → AreRising lead gs
  leads_rise [] h k = tt
  leads_rise ([] ∷ gs) h k = absurd h.0
  leads_rise ((r ∷ rs) ∷ gs) h k = (
    all_leads (λ n. name_cmp r.owner n ≡ Greater → ⊥) gs h.1 (all_right (λ (s : Record Name D). name_cmp r.owner s.owner ≡ Greater → ⊥) rs (flat_map (λ g. g) gs) k.0),
    leads_rise gs h.1 (rise_right (λ (r : Record Name D). r.owner) rs (flat_map (λ g. g) gs) k.1),
  )

  pub kept_rise : (p : List (Record Name D) → Bool) (rs : List (Record Name D)) (gs : List (List (Record Name D))) → flat_map (λ g. g) gs ≡ rs → Grouped gs → AreRising (λ (r : Record Name D). r.owner) rs → AreRising (λ (n : Name). n) (map lead (filter p gs))
  kept_rise p rs gs whole h r = map_rises lead (filter p gs) (some_rise lead p gs (leads_rise gs h (subst (AreRising (λ (r : Record Name D). r.owner)) (sym whole) r)))

-- ---- records in order

less_not_behind : (a b : Name) (o : Ordering) → ordering_then (name_cmp a b) o ≡ Less → name_cmp a b ≡ Greater → ⊥
less_not_behind a b o l g = let x : Greater ≡ Less = sym (ap (λ r. ordering_then r o) g) ∙ l in cc

module _ {O : Type 0} where
  all_not_behind : (r : Record Name (ZoneRecordData O Name)) (rs : List (Record Name (ZoneRecordData O Name))) → IsInternet r → AllByRecursion IsInternet rs → AllByRecursion (λ s. zone_cmp r s ≡ Less) rs → AllByRecursion (λ (s : Record Name (ZoneRecordData O Name)). name_cmp r.owner s.owner ≡ Greater → ⊥) rs
  all_not_behind r [] i h k = tt
  all_not_behind r (s ∷ rs) i h k = (
    less_not_behind r.owner s.owner (ordering_then (nat_cmp (handed_of r).rtype (handed_of s).rtype) (slice_cmp nat_cmp (handed_of r).bytes (handed_of s).bytes)) (sym (one_class r s i h.0) ∙ k.0),
    all_not_behind r rs i h.1 k.1,
  )

  pub canonical_rise : (rs : List (Record Name (ZoneRecordData O Name))) → AllByRecursion IsInternet rs → IsStrictlySortedBy zone_cmp rs → AreRising (λ (r : Record Name (ZoneRecordData O Name)). r.owner) rs
  canonical_rise [] h s = tt
  canonical_rise (r ∷ rs) h s = let k = rising_parts zone_cmp r rs s in (all_not_behind r rs h.0 h.1 k.0, canonical_rise rs h.1 k.1)

  handed_not_behind : (r : Record Name (ZoneRecordData O Name)) (rs : List (Record Name (ZoneRecordData O Name))) → AllByRecursion (λ s. record_cmp (handed_of r) s ≡ Less) (map handed_of rs) → AllByRecursion (λ (s : Record Name (ZoneRecordData O Name)). name_cmp r.owner s.owner ≡ Greater → ⊥) rs
  handed_not_behind r [] k = tt
  handed_not_behind r (s ∷ rs) k = (
    less_not_behind r.owner s.owner (ordering_then (nat_cmp (handed_of r).rtype (handed_of s).rtype) (slice_cmp nat_cmp (handed_of r).bytes (handed_of s).bytes)) k.0,
    handed_not_behind r rs k.1,
  )

  pub handed_rise : (rs : List (Record Name (ZoneRecordData O Name))) → IsStrictlySortedBy record_cmp (map handed_of rs) → AreRising (λ (r : Record Name (ZoneRecordData O Name)). r.owner) rs
  handed_rise [] s = tt
  handed_rise (r ∷ rs) s = let k = rising_parts record_cmp (handed_of r) (map handed_of rs) s in (handed_not_behind r rs k.0, handed_rise rs k.1)

  -- the owners of a zone's records
  pub owners_are : (apex : Name) (rs : List (Record Name (ZoneRecordData O Name))) → owners (zone_with apex (map handed_of rs)) ≡ map (λ (r : Record Name (ZoneRecordData O Name)). low r.owner) rs
  owners_are apex [] = refl
  owners_are apex (r ∷ rs) = ap (λ os. low r.owner ∷ os) (owners_are apex rs)

-- the first of a group
pub lead_is : {D : Type 0} (g : List (Record Name D)) (n : Name) → Some n ≡ option_map (λ (r : Record Name D). r.owner) (slice_get g 0) → n ≡ lead g
lead_is [] n e = cc
lead_is (r ∷ rs) n e = cc

-- ---- the owners that opt-out keeps

module _ {O : Type 0} where
  pub keeps : (apex : Name) (rs : List (Record Name (ZoneRecordData O Name))) (os : List (List (Record Name (ZoneRecordData O Name)))) (names : List Name) → AllByRecursion IsInternet rs → IsStrictlySortedBy zone_cmp rs
      → IsPartition (of_one_owner (λ n. n)) rs (groups (of_one_owner (λ n. n)) rs) → os ≡ kept_groups (λ n. n) zone_type (zone_canonical (λ n. n)) apex true rs → names ≡ map lead os → KeepsNames apex (map handed_of rs) names
  keeps apex rs os names h s p owned is =
      let gs = groups (of_one_owner (λ n. n)) rs in
      let z = zone_with apex (map handed_of rs) in
      let named : names ≡ map lead (filter (λ g. is_kept z true (group_owner (λ n. n) g)) gs) = is ∙ ap (map lead) (owned ∙ ap (λ z. filter (λ g. is_kept z true (group_owner (λ n. n) g)) gs) (zone_is apex rs)) in
      record {
        rising = subst (AreRising (λ (n : Name). n)) (sym named) (kept_rise (λ g. is_kept z true (group_owner (λ n. n) g)) rs gs p.0 p.1 (canonical_rise rs h s));
        shows = λ a. ap (λ os. list_any (at_or_above a) (filter (is_kept z true) os)) (owners_are apex rs) ∙ shows_kept z a rs gs p.0 p.1 ∙ sym (ap (list_any (at_or_above a)) named);
      }

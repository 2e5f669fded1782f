-- Records put in order are, as they were handed in, those that were handed in, put in order.
use Rattle.std.proofs.Common.{◌≡◌, true, false, not, List, [], ◌∷◌, map, refl, sym, ap, ◌∙◌, eqb, eqb-true, Ordering}
use Rattle.std.specs.declared.cmp.Ordering.TheVariants.{Less, Equal, Greater}
use Rattle.std.specs.List.{list_any, AllByRecursion}
use Rattle.std.specs.Ordering.{nat_cmp, ordering_then}
use Rattle.std.specs.Cmp.Lexicographic.{slice_cmp}
use Rattle.definitions.specs.Name.{Name}
use Rattle.definitions.specs.Sorting.{put_by, put_all_by, sort_by}
use Rattle.plain.specs.Records.{record_canonical_cmp}
use Rattle.plain.specs.ZoneData.{zone_canonical, zone_type}
use Rattle.plain.specs.declared.record.Record.{Record}
use Rattle.plain.specs.declared.zone_data.ZoneRecordData.{ZoneRecordData}
use Rattle.messages.specs.Handed.{IsHanded}
use Rattle.messages.specs.HandedRr.{HandedRr, handed_of}
use Rattle.answer_terms.specs.Accepting.{record_cmp, sorted_records}
use Rattle.answer_zone_records.specs.OwnedRecords.{IsInternet}
use Rattle.messages.proofs.Lists.{all_more, all_pass, all_put, all_sorted, list_any-map}

module _ {A B : Type 0} (f : A → B) (c : A → A → Ordering) (d : B → B → Ordering) (P : A → Type 0) (alike : (x y : A) → P x → P y → c x y ≡ d (f x) (f y)) where
  put_by-map : (a : A) (xs : List A) → P a → AllByRecursion P xs → map f (put_by c a xs) ≡ put_by d (f a) (map f xs)
  put_by-map a [] p q = refl
  put_by-map a (x ∷ xs) p q =
      elim (c a x) as (λ (o : Ordering). map f (elim o [ Less ↦ a ∷ x ∷ xs | Equal ↦ x ∷ xs | Greater ↦ x ∷ put_by c a xs ]) ≡ elim o [ Less ↦ f a ∷ f x ∷ map f xs | Equal ↦ f x ∷ map f xs | Greater ↦ f x ∷ put_by d (f a) (map f xs) ]) [
        | Less ↦ refl
        | Equal ↦ refl
        | Greater ↦ ap (λ ys. f x ∷ ys) (put_by-map a xs p q.1)
      ]
      ∙ ap (λ (o : Ordering). elim o [ Less ↦ f a ∷ f x ∷ map f xs | Equal ↦ f x ∷ map f xs | Greater ↦ f x ∷ put_by d (f a) (map f xs) ]) (alike a x p q.0)

  put_all_by-map : (into xs : List A) → AllByRecursion P into → AllByRecursion P xs → map f (put_all_by c into xs) ≡ put_all_by d (map f into) (map f xs)
  put_all_by-map into [] p q = refl
  put_all_by-map into (x ∷ xs) p q =
      put_all_by-map (put_by c x into) xs (all_put P c x into q.0 p) q.1
      ∙ ap (λ ys. put_all_by d ys (map f xs)) (put_by-map x into q.0 p)

  sort_by-map : (xs : List A) → AllByRecursion P xs → map f (sort_by c xs) ≡ sort_by d (map f xs)
  sort_by-map xs q = put_all_by-map [] xs tt q

-- the canonical order of a zone's records
abbrev pub zone_cmp : {O : Type 0} → Record Name (ZoneRecordData O Name) → Record Name (ZoneRecordData O Name) → Ordering
zone_cmp = record_canonical_cmp (λ n. n) zone_type (λ a b. slice_cmp nat_cmp (zone_canonical (λ n. n) a) (zone_canonical (λ n. n) b))

module _ {O : Type 0} where
  pub one_class : (r s : Record Name (ZoneRecordData O Name)) → IsInternet r → IsInternet s → zone_cmp r s ≡ record_cmp (handed_of r) (handed_of s)
  one_class r s p q = λ i. ordering_then (nat_cmp (p i) (q i)) (record_cmp (handed_of r) (handed_of s))

  pub handed_in_order : (rs : List (Record Name (ZoneRecordData O Name))) → AllByRecursion IsInternet rs → map handed_of (sort_by zone_cmp rs) ≡ sorted_records (map handed_of rs)
  handed_in_order rs h = sort_by-map handed_of zone_cmp record_cmp IsInternet one_class rs h

  -- no record of another class
  pub all_internet : (rs : List (Record Name (ZoneRecordData O Name))) → list_any (λ r. not (eqb r.class 1)) (map handed_of rs) ≡ false → AllByRecursion IsInternet rs
  all_internet rs e =
      all_more (λ r. eqb r.class 1 ≡ true) IsInternet rs (λ r h. eqb-true r.class 1 h)
      (all_pass (λ (r : Record Name (ZoneRecordData O Name)). eqb r.class 1) rs (sym (list_any-map (λ (r : HandedRr). not (eqb r.class 1)) handed_of rs) ∙ e))

  pub sorted_internet : (rs : List (Record Name (ZoneRecordData O Name))) → AllByRecursion IsInternet rs → AllByRecursion IsInternet (sort_by zone_cmp rs)
  sorted_internet rs h = all_sorted IsInternet zone_cmp rs h

  handed_each : (rs : List (Record Name (ZoneRecordData O Name))) → AllByRecursion IsHanded (map handed_of rs) → AllByRecursion (λ r. IsHanded (handed_of r)) rs
  handed_each [] h = tt
  handed_each (r ∷ rs) h = (h.0, handed_each rs h.1)

  handed_all : (rs : List (Record Name (ZoneRecordData O Name))) → AllByRecursion (λ r. IsHanded (handed_of r)) rs → AllByRecursion IsHanded (map handed_of rs)
  handed_all [] h = tt
  handed_all (r ∷ rs) h = (h.0, handed_all rs h.1)

  pub sorted_handed : (rs : List (Record Name (ZoneRecordData O Name))) → AllByRecursion IsHanded (map handed_of rs) → AllByRecursion IsHanded (map handed_of (sort_by zone_cmp rs))
  sorted_handed rs h = handed_all (sort_by zone_cmp rs) (all_sorted (λ r. IsHanded (handed_of r)) zone_cmp rs (handed_each rs h))

-- The groups of records in canonical order by owner: each has one owner, and the owners ascend.
use Rattle.std.proofs.Common.{◌≡◌, ℕ, true, false, List, [], ◌∷◌, ◌++◌, map, refl, sym, ap, subst, ◌∙◌, inl, inr}
use Rattle.std.specs.Prelude.{nat_eq, reverse}
use Rattle.std.specs.Cmp.Lexicographic.{slice_cmp}
use Rattle.std.specs.List.{AllByRecursion, flat_map}
use Rattle.std.specs.List.Sorted.{IsStrictlySortedBy}
use Rattle.std.specs.declared.cmp.Ordering.{Ordering}
use Rattle.std.specs.declared.cmp.Ordering.TheVariants.{Less, Equal, Greater}
use Rattle.std.specs.Ordering.{nat_cmp, ordering_then}
use Rattle.std.specs.Cmp.{nat_cmp_total}
use Rattle.std.proofs.lemmas.Cmp.{tied_itself}
use Rattle.std.proofs.lemmas.Bool.{eq-eqb}
use Rattle.std.proofs.lemmas.Map.Keys.{sorted_head, sorted_tail}
use Rattle.definitions.specs.Name.{Name, low, same, name_cmp}
use Rattle.definitions.proofs.Members.{In, map_in, flat_in, in_append_left, in_append_right, Rises}
use Rattle.definitions.proofs.NameLaws.{name_cmp_total, labels_decide, equal_is_same}
use Rattle.definitions.proofs.ZoneNames.{low-low, and_parts, and_from}
use Rattle.plain.specs.Records.{record_canonical_cmp}
use Rattle.plain.specs.declared.record.Record.{Record}
use Rattle.denial_rrsets.specs.GroupLaws.{one_owner_equivalence}
use Rattle.denial_rrsets.specs.Groups.{IsGroup, groups, of_one_owner, group_owner}
use Rattle.denial_rrsets.specs.Partitions.{AreApart, AreUnlike}
use Rattle.denial_rrsets.proofs.Grouped.{all_groups}
use Rattle.denial_sorted.proofs.Parted.{joined, owners_parted}
use Rattle.denial_chain_owners.specs.Conditions.{IsCanonicalOrder, IsOneClass}

pub all_at : {X : Type 0} (P : X → Type 0) (xs : List X) (x : X) → AllByRecursion P xs → In x xs → P x
all_at P [] x h i = absurd i
all_at P (y ∷ ys) x h i = elim i [
  | inl e ↦ subst P (sym e) h.0
  | inr j ↦ all_at P ys x h.1 j
]

pub name_cmp-low : (a b : Name) → name_cmp (low a) (low b) ≡ name_cmp a b
name_cmp-low a b = λ i. slice_cmp (slice_cmp nat_cmp) (reverse (low-low a i)) (reverse (low-low b i))

-- Groups of records: each of one owner, and not empty; the owners ascend.
pub record ByOwner {N D : Type 0} (name : N → Name) (gs : List (List (Record N D))) : Type 0 where
  pub owned : (g : List (Record N D)) → In g gs → (r : Record N D) → In r g → low (name r.owner) ≡ group_owner name g
  pub some : (g : List (Record N D)) → In g gs → (r : Record N D) × (rest : List (Record N D)) × (g ≡ r ∷ rest)
  pub rises : Rises name_cmp name_cmp_total (map (group_owner name) gs)

module _ {N D : Type 0} (name : N → Name) where
  alike_owners : (r s : Record N D) → of_one_owner name r s ≡ true → low (name s.owner) ≡ low (name r.owner)
  alike_owners r s e =
      let p = and_parts (nat_eq r.class s.class) (same (name r.owner) (name s.owner)) e in
      sym ((labels_decide (low (name r.owner)) (low (name s.owner))).0 p.1)

  group_owned : (g : List (Record N D)) → IsGroup (of_one_owner name) g → (r : Record N D) → In r g → low (name r.owner) ≡ group_owner name g
  group_owned [] k r i = absurd i
  group_owned (s ∷ g) k r i = elim i [
    | inl e ↦ ap (λ x. low (name x.owner)) e
    | inr j ↦ alike_owners s r (all_at (λ y. of_one_owner name s y ≡ true) g r k j)
  ]

  group_some : (g : List (Record N D)) → IsGroup (of_one_owner name) g → (r : Record N D) × (rest : List (Record N D)) × (g ≡ r ∷ rest)
  group_some [] k = absurd k
  group_some (r ∷ g) k = (r, g, refl)

  pub class_at : (rs : List (Record N D)) → IsOneClass rs → (r s : Record N D) → In r rs → In s rs → r.class ≡ s.class
  class_at [] c r s i j = absurd i
  class_at (q ∷ rs) c r s i j = to_first r i ∙ sym (to_first s j)
    where
      to_first : (x : Record N D) → In x (q ∷ rs) → x.class ≡ q.class
      to_first x h = elim h [
        | inl e ↦ ap (λ y. y.class) e
        | inr k ↦ all_at (λ y. y.class ≡ q.class) rs x c k
      ]

  pub whole_of : (rs : List (Record N D)) → flat_map (λ g. g) (groups (of_one_owner name) rs) ≡ rs
  whole_of rs = joined (of_one_owner name) (one_owner_equivalence name) rs

  module _ (rtype : D → ℕ) (by_data : D → D → Ordering) where
    abbrev cmp : Record N D → Record N D → Ordering
    cmp = record_canonical_cmp name rtype by_data

    -- of one class and unlike, the lesser record has the lesser owner
    less_owner : (r s : Record N D) → r.class ≡ s.class → cmp r s ≡ Less → of_one_owner name r s ≡ false → name_cmp (name r.owner) (name s.owner) ≡ Less
    less_owner r s c l n =
        let tied : nat_cmp r.class s.class ≡ Equal = ap (λ k. nat_cmp k s.class) c ∙ tied_itself nat_cmp_total s.class in
        let rest : Ordering = ordering_then (nat_cmp (rtype r.content) (rtype s.content)) (by_data r.content s.content) in
        let l2 : ordering_then (name_cmp (name r.owner) (name s.owner)) rest ≡ Less =
        sym (ap (λ q. ordering_then q (ordering_then (name_cmp (name r.owner) (name s.owner)) rest)) tied) ∙ l in
        go (name_cmp (name r.owner) (name s.owner)) refl rest l2
      where
        go : (q : Ordering) → name_cmp (name r.owner) (name s.owner) ≡ q → (t : Ordering) → ordering_then q t ≡ Less → q ≡ Less
        go Less e t h = refl
        go Equal e t h =
            let w : of_one_owner name r s ≡ true = and_from (nat_eq r.class s.class) (same (name r.owner) (name s.owner)) (eq-eqb r.class s.class c) (equal_is_same (name r.owner) (name s.owner) e) in
            let x : true ≡ false = sym w ∙ n in
            absurd cc
        go Greater e t h = absurd cc

    sorted_behind : (g rs : List (Record N D)) → IsStrictlySortedBy cmp (g ++ rs) → IsStrictlySortedBy cmp rs
    sorted_behind [] rs h = h
    sorted_behind (r ∷ g) rs h = sorted_behind g rs (sorted_tail cmp r (g ++ rs) h)

    in_flat_group : (gs : List (List (Record N D))) (g : List (Record N D)) (r : Record N D) → In g gs → In r g → In r (flat_map (λ g. g) gs)
    in_flat_group = λ gs g r i j. Rattle.definitions.proofs.Members.in_flat (λ g. g) gs g r i j

    ascend : (gs : List (List (Record N D))) → IsStrictlySortedBy cmp (flat_map (λ g. g) gs)
        → ((r s : Record N D) → In r (flat_map (λ g. g) gs) → In s (flat_map (λ g. g) gs) → r.class ≡ s.class)
        → AllByRecursion (IsGroup (of_one_owner name)) gs → AreApart (of_one_owner name) gs → Rises name_cmp name_cmp_total (map (group_owner name) gs)
    ascend [] h c k a = tt
    ascend ([] ∷ gs) h c k a = absurd k.0
    ascend ((r ∷ g) ∷ gs) h c k a = (
      (λ x i.
          let f = map_in (group_owner name) gs x i in
          let s = group_some f.item (all_at (IsGroup (of_one_owner name)) gs f.item k.1 f.inside) in
          let there : In s.0 f.item = subst (In s.0) (sym s.2) (inl refl) in
          let later : In s.0 (g ++ flat_map (λ g. g) gs) = in_append_right g (flat_map (λ g. g) gs) s.0 (in_flat_group gs f.item s.0 f.inside there) in
          let below : cmp r s.0 ≡ Less = all_at (λ y. cmp r y ≡ Less) (g ++ flat_map (λ g. g) gs) s.0 (sorted_head cmp r (g ++ flat_map (λ g. g) gs) h) later in
          let unlike : of_one_owner name r s.0 ≡ false = all_at (λ y. of_one_owner name r y ≡ false) f.item s.0 (all_at (AreUnlike (of_one_owner name) (r ∷ g)) gs f.item a.0 f.inside).0 there in
          let less : name_cmp (low (name r.owner)) (low (name s.0.owner)) ≡ Less = name_cmp-low (name r.owner) (name s.0.owner) ∙ less_owner r s.0 (c r s.0 (inl refl) (inr later)) below unlike in
          let makes : x ≡ low (name s.0.owner) = f.makes ∙ ap (group_owner name) s.2 in
          ap (name_cmp (low (name r.owner))) makes ∙ less),
      ascend gs (sorted_behind (r ∷ g) (flat_map (λ g. g) gs) h)
          (λ x y i j. c x y (inr (in_append_right g (flat_map (λ g. g) gs) x i)) (inr (in_append_right g (flat_map (λ g. g) gs) y j)))
          k.1 a.1,
    )

    pub by_owner : (rs : List (Record N D)) → IsOneClass rs → IsCanonicalOrder name rtype by_data rs → ByOwner name (groups (of_one_owner name) rs)
    by_owner rs c h =
        let gs : List (List (Record N D)) = groups (of_one_owner name) rs in
        let whole : flat_map (λ g. g) gs ≡ rs = joined (of_one_owner name) (one_owner_equivalence name) rs in
        let all : AllByRecursion (IsGroup (of_one_owner name)) gs = all_groups (of_one_owner name) (one_owner_equivalence name) rs in
        let sorted : IsStrictlySortedBy cmp (flat_map (λ g. g) gs) = subst (IsStrictlySortedBy cmp) (sym whole) h in
        let class : (r s : Record N D) → In r (flat_map (λ g. g) gs) → In s (flat_map (λ g. g) gs) → r.class ≡ s.class =
        λ r s i j. class_at rs c r s (subst (In r) whole i) (subst (In s) whole j) in
        record {
          owned = λ g i r j. group_owned g (all_at (IsGroup (of_one_owner name)) gs g all i) r j;
          some = λ g i. group_some g (all_at (IsGroup (of_one_owner name)) gs g all i);
          rises = ascend gs sorted class all (owners_parted name rtype by_data rs h).2;
        }

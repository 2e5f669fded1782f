-- Data that were sorted, equal ones left out, are those in order.
use Rattle.std.proofs.Common.{◌≡◌, ℕ, Bool, true, false, cond, inl, inr, List, [], ◌∷◌, map, refl, sym, ap, subst, ◌∙◌, Ordering}
use Rattle.std.specs.declared.cmp.Ordering.TheVariants.{Less}
use Rattle.std.specs.List.{AllByRecursion, Contains, dedup}
use Rattle.std.specs.List.Sorted.{IsPermutation, IsSorted, IsStrictlySortedBy}
use Rattle.std.specs.Cmp.{on_total}
use Rattle.std.specs.Cmp.Lexicographic.{slice_cmp, pointwise, bytes_decides, nat_list_cmp_total, nat_list_eq_equiv, texts_ties}
use Rattle.std.specs.FinMap.{nat_cmp-IsAntisymmetric, slice_cmp-IsAntisymmetric}
use Rattle.std.specs.Ordering.{nat_cmp}
use Rattle.std.specs.Prelude.{nat_eq}
use Rattle.std.proofs.lemmas.List.Kept.{Contains-dedup, Contains-from_dedup, IsStrictlySortedBy-dedup}
use Rattle.std.proofs.lemmas.List.Sorted.{Contains-permutation, IsPermutation-map, IsPermutation-sym}
use Rattle.definitions.proofs.Members.{In, Rises, rising_same, sort_has, sort_keeps, sort_rises, within_contained}
use Rattle.definitions.specs.Zone.{sorted_data}

dedup_mapped : {X Y : Type 0} (f : X → Y) (same : Y → Y → Bool) (k : X) (xs : List X) → map f (dedup (λ a b. same (f a) (f b)) (k ∷ xs)) ≡ dedup same (f k ∷ map f xs)
dedup_mapped f same k [] = refl
dedup_mapped {X} {Y} f same k (x ∷ xs) = go (same (f x) (f k)) (dedup_mapped f same k xs) (dedup_mapped f same x xs)
  where
    kept : List X → List X
    kept ys = dedup (λ a b. same (f a) (f b)) ys

    go : (b : Bool) → map f (kept (k ∷ xs)) ≡ dedup same (f k ∷ map f xs) → map f (kept (x ∷ xs)) ≡ dedup same (f x ∷ map f xs) → map f (cond b (kept (k ∷ xs)) (k ∷ kept (x ∷ xs))) ≡ cond b (dedup same (f k ∷ map f xs)) (f k ∷ dedup same (f x ∷ map f xs))
    go true h i = h
    go false h i = ap (λ ys. f k ∷ ys) i

map_dedup : {X Y : Type 0} (f : X → Y) (same : Y → Y → Bool) (xs : List X) → map f (dedup (λ a b. same (f a) (f b)) xs) ≡ dedup same (map f xs)
map_dedup f same [] = refl
map_dedup f same (x ∷ xs) = dedup_mapped f same x xs

parts : {X : Type 0} (R : X → X → Ordering) (x : X) (xs : List X) → IsStrictlySortedBy R (x ∷ xs) → AllByRecursion (λ y. R x y ≡ Less) xs × IsStrictlySortedBy R xs
unfolding IsStrictlySortedBy
parts R x xs s = s

all_above : {X : Type 0} (v : X → List ℕ) (x : X) (xs : List X) → AllByRecursion (λ y. slice_cmp nat_cmp (v x) (v y) ≡ Less) xs → (d : List ℕ) → In d (map v xs) → slice_cmp nat_cmp (v x) d ≡ Less
all_above v x [] h d i = absurd i
all_above v x (y ∷ ys) h d i = elim i [
  | inl e ↦ ap (slice_cmp nat_cmp (v x)) e ∙ h.0
  | inr later ↦ all_above v x ys h.1 d later
]

rise : {X : Type 0} (v : X → List ℕ) (xs : List X) → IsStrictlySortedBy (λ a b. slice_cmp nat_cmp (v a) (v b)) xs → Rises (slice_cmp nat_cmp) nat_list_cmp_total (map v xs)
rise v [] s = tt
rise v (x ∷ xs) s = let p = parts (λ a b. slice_cmp nat_cmp (v a) (v b)) x xs s in (all_above v x xs p.0, rise v xs p.1)

pub data_once : {X : Type 0} (v : X → List ℕ) (xs ys zs : List X) → IsPermutation xs ys → IsSorted (λ a b. slice_cmp nat_cmp (v a) (v b)) ys → zs ≡ dedup (λ a b. pointwise nat_eq (v a) (v b)) ys → map v zs ≡ sorted_data (map v xs)
data_once {X} v xs ys zs moved sorted is =
    let cmp = slice_cmp nat_cmp in
    let E = pointwise nat_eq in
    let strictly : IsStrictlySortedBy (λ a b. cmp (v a) (v b)) zs = subst (IsStrictlySortedBy (λ a b. cmp (v a) (v b))) (sym is) (IsStrictlySortedBy-dedup (on_total v nat_list_cmp_total) {E = λ a b. E (v a) (v b)} (λ a b. texts_ties (v a) (v b)) ys sorted) in
    let kept : map v zs ≡ dedup E (map v ys) = ap (map v) is ∙ map_dedup v E ys in
    let there : (d : List ℕ) → Contains (map v zs) d → Contains (map v xs) d =
    λ d c. Contains-permutation (map v ys) (map v xs) d (IsPermutation-sym (map v xs) (map v ys) (IsPermutation-map v xs ys moved)) (Contains-from_dedup E (map v ys) d (subst (λ ds. Contains ds d) kept c)) in
    let back : (d : List ℕ) → Contains (map v xs) d → Contains (map v zs) d =
    λ d c. subst (λ ds. Contains ds d) (sym kept) (Contains-dedup nat_list_eq_equiv (λ a b t. (bytes_decides a b).0 t) (map v ys) d (Contains-permutation (map v xs) (map v ys) d (IsPermutation-map v xs ys moved) c)) in
    rising_same cmp nat_list_cmp_total (map v zs) (sorted_data (map v xs)) (rise v zs strictly) (sort_rises cmp nat_list_cmp_total (map v xs))
    (λ d i. sort_keeps cmp nat_list_cmp_total (map v xs) d (λ a b _ _ q. slice_cmp-IsAntisymmetric nat_cmp-IsAntisymmetric a b q) (within_contained (map v zs) (map v xs) there d i))
    (λ d i. within_contained (map v xs) (map v zs) back d (sort_has cmp nat_list_cmp_total (map v xs) d i))

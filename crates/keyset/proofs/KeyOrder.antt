-- The entries of a hashed map, seen in order.
use Rattle.std.proofs.Common.{◌≡◌, ℕ, ◌≤◌, Bool, true, false, cond, List, [], ◌∷◌, map, refl, sym, ap, ◌∙◌, T, subst, arith}
use Rattle.std.specs.Prelude.{Some, None, max}
use Rattle.std.specs.List.{IsDistinct, AllByRecursion}
use Rattle.std.specs.List.Sorted.{IsPermutation}
use Rattle.std.proofs.lemmas.List.Sorted.{IsPermutation-refl, IsPermutation-cons, IsPermutation-trans, IsPermutation-middle, IsPermutation-sym, All-permutation}
use Rattle.std.proofs.lemmas.List.Elements.{All-from_recursion, recursion_from_All}
use Rattle.std.specs.Map.{lookup, keys_of}
use Rattle.std.specs.Map.Calls.{RetainsPairs}
use Rattle.std.specs.declared.cmp.Ordering.{Ordering}
use Rattle.std.specs.declared.cmp.Ordering.TheVariants.{Less, Equal, Greater}
use Rattle.std.specs.Ordering.{eq_by_cmp, is_eq}
use Rattle.std.specs.Cmp.{IsTotalOrder}
use Rattle.std.specs.FinMap.{IsAntisymmetric}
use Rattle.std.specs.FinMap.Entries.{put, find, where_key, find-put, find-where_key, is_sorted, is_sorted-put, is_sorted-where_key, same_entries, by_order}
use Rattle.keyset.specs.KeyState.{in_order, greatest}

module _ {K Q X : Type 0} (R : Q → Q → Ordering) (f : K → Q) (o : IsTotalOrder R) where
  pub find-in_order : (q : Q) (es : List (K × X)) → find R q (in_order R f es) ≡ lookup (λ k. eq_by_cmp R q (f k)) es
  find-in_order q [] = refl
  find-in_order q (e ∷ es) =
      find-put R o q (f e.0) e.1 (in_order R f es) ∙ ap (cond (eq_by_cmp R q (f e.0)) (Some e.1)) (find-in_order q es)

  pub is_sorted-in_order : (es : List (K × X)) → T (is_sorted R (in_order R f es))
  is_sorted-in_order [] = tt
  is_sorted-in_order (e ∷ es) = is_sorted-put R o (f e.0) e.1 (in_order R f es) (is_sorted-in_order es)

  module _ (same : IsAntisymmetric R) where
    -- the entries with one put in
    pub in_order-put : (es fs : List (K × X)) (q : Q) (v : X) → ((p : Q) → lookup (λ k. eq_by_cmp R p (f k)) fs ≡ cond (eq_by_cmp R p q) (Some v) (lookup (λ k. eq_by_cmp R p (f k)) es)) → in_order R f fs ≡ put R q v (in_order R f es)
    in_order-put es fs q v h =
        same_entries R o same (in_order R f fs) (put R q v (in_order R f es)) (is_sorted-in_order fs) (is_sorted-put R o q v (in_order R f es) (is_sorted-in_order es))
        (λ p. find-in_order p fs ∙ h p ∙ ap (cond (eq_by_cmp R p q) (Some v)) (sym (find-in_order p es)) ∙ sym (find-put R o p q v (in_order R f es)))

    -- the entries without those whose keys fail a test
    pub in_order-where_key : (es fs : List (K × X)) (keep : Q → Bool) → ((p : Q) → lookup (λ k. eq_by_cmp R p (f k)) fs ≡ cond (keep p) (lookup (λ k. eq_by_cmp R p (f k)) es) None) → in_order R f fs ≡ where_key R keep (in_order R f es)
    in_order-where_key es fs keep h =
        same_entries R o same (in_order R f fs) (where_key R keep (in_order R f es)) (is_sorted-in_order fs) (is_sorted-where_key R keep (in_order R f es) (is_sorted-in_order es))
        (λ p. find-in_order p fs ∙ h p ∙ ap (λ x. cond (keep p) x None) (sym (find-in_order p es)) ∙ sym (find-where_key R keep p (λ x e. ap keep (sym (same p x e))) (in_order R f es)))

    put_mapped : (g : Q → X → X) (q : Q) (v : X) (es : List (Q × X)) → put R q (g q v) (map (λ e. (e.0, g e.0 e.1)) es) ≡ map (λ e. (e.0, g e.0 e.1)) (put R q v es)
    put_mapped g q v [] = refl
    put_mapped g q v (e ∷ es) =
        elim (R q e.0) as (λ r. R q e.0 ≡ r → by_order r ((q, g q v) ∷ (e.0, g e.0 e.1) ∷ map (λ e. (e.0, g e.0 e.1)) es) ((e.0, g q v) ∷ map (λ e. (e.0, g e.0 e.1)) es) ((e.0, g e.0 e.1) ∷ put R q (g q v) (map (λ e. (e.0, g e.0 e.1)) es)) ≡ map (λ e. (e.0, g e.0 e.1)) (by_order r ((q, v) ∷ e ∷ es) ((e.0, v) ∷ es) (e ∷ put R q v es))) [
          | Less ↦ λ _. refl
          | Equal ↦ λ t. ap (λ p. (e.0, g p v) ∷ map (λ e. (e.0, g e.0 e.1)) es) (same q e.0 t)
          | Greater ↦ λ _. ap (λ xs. (e.0, g e.0 e.1) ∷ xs) (put_mapped g q v es)
        ] refl

    -- the entries with each value changed
    pub in_order-map : (g : Q → X → X) (es : List (K × X)) → in_order R f (map (λ e. (e.0, g (f e.0) e.1)) es) ≡ map (λ e. (e.0, g e.0 e.1)) (in_order R f es)
    in_order-map g [] = refl
    in_order-map g (e ∷ es) = ap (put R (f e.0) (g (f e.0) e.1)) (in_order-map g es) ∙ put_mapped g (f e.0) e.1 (in_order R f es)

  put_permutes : (q : Q) (v : X) (es : List (Q × X)) → find R q es ≡ None → IsPermutation ((q, v) ∷ es) (put R q v es)
  put_permutes q v [] h = IsPermutation-refl ((q, v) ∷ [])
  put_permutes q v (e ∷ es) h =
      elim (R q e.0) as (λ r. cond (is_eq r) (Some e.1) (find R q es) ≡ None → IsPermutation ((q, v) ∷ e ∷ es) (by_order r ((q, v) ∷ e ∷ es) ((e.0, v) ∷ es) (e ∷ put R q v es))) [
        | Less ↦ λ _. IsPermutation-refl ((q, v) ∷ e ∷ es)
        | Equal ↦ λ t. cc
        | Greater ↦ λ t. IsPermutation-trans ((q, v) ∷ e ∷ es) (e ∷ (q, v) ∷ es) (e ∷ put R q v es) (IsPermutation-middle ((q, v) ∷ []) e es) (IsPermutation-cons e ((q, v) ∷ es) (put R q v es) (put_permutes q v es t))
      ] h

  lookup_none : (eq : K → K → Bool) → ((x y : K) → eq x y ≡ eq_by_cmp R (f x) (f y)) → (k : K) (es : List (K × X)) → AllByRecursion (λ y. eq k y ≡ false) (keys_of es) → lookup (λ y. eq_by_cmp R (f k) (f y)) es ≡ None
  lookup_none eq tied k [] h = refl
  lookup_none eq tied k (e ∷ es) h = ap (λ b. cond b (Some e.1) (lookup (λ y. eq_by_cmp R (f k) (f y)) es)) (sym (tied k e.0) ∙ h.0) ∙ lookup_none eq tied k es h.1

  -- where no two keys are equal, the list has the map's entries and no others
  pub in_order-permutes : (eq : K → K → Bool) → ((x y : K) → eq x y ≡ eq_by_cmp R (f x) (f y)) → (es : List (K × X)) → IsDistinct eq (keys_of es) → IsPermutation (map (λ e. (f e.0, e.1)) es) (in_order R f es)
  unfolding IsDistinct
  in_order-permutes eq tied [] h = IsPermutation-refl []
  in_order-permutes eq tied (e ∷ es) h =
      IsPermutation-trans ((f e.0, e.1) ∷ map (λ e. (f e.0, e.1)) es) ((f e.0, e.1) ∷ in_order R f es) (put R (f e.0) e.1 (in_order R f es))
      (IsPermutation-cons (f e.0, e.1) (map (λ e. (f e.0, e.1)) es) (in_order R f es) (in_order-permutes eq tied es h.1))
      (put_permutes (f e.0) e.1 (in_order R f es) (find-in_order (f e.0) es ∙ lookup_none eq tied e.0 es h.0))

-- a closure that always keeps and writes g of each key and value, and stays as it was
pub map_pairs : {F K X : Type 0} (C : F → K → X → Bool → X → F → Type 0) (g : K → X → X) (f : F) → ((k : K) (v : X) (b : Bool) (w : X) (f' : F) → C f k v b w f' → (b ≡ true) × (w ≡ g k v) × (f' ≡ f)) → (es kept : List (K × X)) → RetainsPairs C f es kept → kept ≡ map (λ e. (e.0, g e.0 e.1)) es
map_pairs C g f h [] kept r = r
map_pairs C g f h (e ∷ es) kept r =
    let a = h e.0 e.1 r.0 r.1 r.2 r.4 in
    let rest = map_pairs C g f h es r.3 (subst (λ u. RetainsPairs C u es r.3) a.2 r.5) in
    r.6 ∙ ap (λ b. cond b ((e.0, r.1) ∷ r.3) r.3) a.0 ∙ (λ i. (e.0, a.1 i) ∷ rest i)

raised : (a b : ℕ) → a ≤ b → (ns : List ℕ) → AllByRecursion (λ n. n ≤ a) ns → AllByRecursion (λ n. n ≤ b) ns
raised a b h [] p = tt
raised a b h (n ∷ ns) p = (let q : n ≤ a = p.0 in omega arith, raised a b h ns p.1)

below_greatest : (ns : List ℕ) → AllByRecursion (λ n. n ≤ greatest ns) ns
below_greatest [] = tt
below_greatest (n ∷ ns) = (omega arith, raised (greatest ns) (max n (greatest ns)) (omega arith) ns (below_greatest ns))

greatest_least : (m : ℕ) (ns : List ℕ) → AllByRecursion (λ n. n ≤ m) ns → greatest ns ≤ m
greatest_least m [] h = omega arith
greatest_least m (n ∷ ns) h =
    let p : n ≤ m = h.0 in
    let q : greatest ns ≤ m = greatest_least m ns h.1 in
    omega arith

greatest_within : (ns ms : List ℕ) → IsPermutation ns ms → greatest ms ≤ greatest ns
greatest_within ns ms h =
    greatest_least (greatest ns) ms (recursion_from_All (λ n. n ≤ greatest ns) ms (All-permutation (λ n. n ≤ greatest ns) ns ms h (All-from_recursion (λ n. n ≤ greatest ns) ns (below_greatest ns))))

pub greatest-IsPermutation : (ns ms : List ℕ) → IsPermutation ns ms → greatest ns ≡ greatest ms
greatest-IsPermutation ns ms h =
    let a : greatest ms ≤ greatest ns = greatest_within ns ms h in
    let b : greatest ns ≤ greatest ms = greatest_within ms ns (IsPermutation-sym ns ms h) in
    omega arith

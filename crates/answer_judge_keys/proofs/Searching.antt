-- Lists in order, and what is found in them.
use Rattle.std.proofs.Common.{◌≡◌, ℕ, zero, suc, ◌<◌, Bool, true, false, cond, List, [], ◌∷◌, length, get_or, refl, sym, ap, ◌∙◌, arith}
use Rattle.std.specs.Prelude.{Option, Some, None}
use Rattle.std.specs.List.{filter, find, slice_get}
use Rattle.std.specs.List.Sorted.{IsStableBy, ties}
use Rattle.std.proofs.lemmas.Bool.{false≢true}

abbrev first_item : {X : Type 0} → List X → Option X
first_item [] = None
first_item (x ∷ xs) = Some x

find_first : {X : Type 0} (p : X → Bool) (xs : List X) → find p xs ≡ first_item (filter p xs)
find_first p [] = refl
find_first p (x ∷ xs) = go (p x) (find_first p xs)
  where
    go : (b : Bool) → find p xs ≡ first_item (filter p xs) → cond b (Some x) (find p xs) ≡ first_item (cond b (x ∷ filter p xs) (filter p xs))
    go true rest = refl
    go false rest = rest

pub found_passes : {X : Type 0} (p : X → Bool) (xs : List X) (x : X) → find p xs ≡ Some x → p x ≡ true
found_passes p [] x e = absurd cc
found_passes p (y ∷ xs) x e = go (p y) refl e (found_passes p xs x)
  where
    go : (b : Bool) → p y ≡ b → cond b (Some y) (find p xs) ≡ Some x → (find p xs ≡ Some x → p x ≡ true) → p x ≡ true
    go true h k rest = let same : y ≡ x = cc in ap p (sym same) ∙ h
    go false h k rest = rest k

filter_alike : {X : Type 0} (p q : X → Bool) → ((x : X) → q x ≡ p x) → (xs : List X) → filter q xs ≡ filter p xs
filter_alike p q h [] = refl
filter_alike p q h (x ∷ xs) = (λ i. cond (h x i) (x ∷ filter_alike p q h xs i) (filter_alike p q h xs i))

-- a stable sort leaves the first of what ties
module _ {X : Type 0} (lt : X → X → Bool) (p : X → Bool) (tied : (x y : X) → p x ≡ true → ties lt x y ≡ p y) where
  same_filter : (xs ys : List X) → IsStableBy lt xs ys → (x : X) → p x ≡ true → filter p ys ≡ filter p xs
  same_filter xs ys stable x h = sym (filter_alike p (ties lt x) (λ y. tied x y h) ys) ∙ stable x ∙ filter_alike p (ties lt x) (λ y. tied x y h) xs

  pub same_find : (xs ys : List X) → IsStableBy lt xs ys → find p ys ≡ find p xs
  same_find xs ys stable = go (find p xs) refl (find p ys) refl
    where
      by : (x : X) → p x ≡ true → find p ys ≡ find p xs
      by x h = find_first p ys ∙ ap first_item (same_filter xs ys stable x h) ∙ sym (find_first p xs)

      go : (a : Option X) → find p xs ≡ a → (b : Option X) → find p ys ≡ b → find p ys ≡ find p xs
      go (Some x) e b k = by x (found_passes p xs x e)
      go None e (Some y) k = by y (found_passes p ys y k)
      go None e None k = k ∙ sym e

none_find : {X : Type 0} (p : X → Bool) (xs : List X) → ((k : ℕ) (d : X) → k < length xs → p (get_or xs k d) ≡ false) → find p xs ≡ None
none_find p [] h = refl
none_find p (x ∷ xs) h = ap (λ b. cond b (Some x) (find p xs)) (h 0 x (omega arith)) ∙ none_find p xs (λ k d l. h (suc k) d (omega arith))

abbrev pub if_passes : {X : Type 0} → (X → Bool) → Option X → Option X
if_passes p None = None
if_passes p (Some x) = cond (p x) (Some x) None

-- what is found stands where those end that stand before it
pub find_at : {X : Type 0} (p : X → Bool) (xs : List X) (i : ℕ) → ((k : ℕ) (d : X) → k < i → k < length xs → p (get_or xs k d) ≡ false)
    → ((k : ℕ) (d : X) → i < k → k < length xs → p (get_or xs k d) ≡ true → p (get_or xs i d) ≡ true) → find p xs ≡ if_passes p (slice_get xs i)
find_at p [] i h k = refl
find_at p (x ∷ xs) zero h k = go (p x) refl
  where
    go : (b : Bool) → p x ≡ b → cond b (Some x) (find p xs) ≡ cond b (Some x) None
    go true e = refl
    go false e = none_find p xs (λ j d l. no (p (get_or xs j d)) (λ t. sym e ∙ k (suc j) d (omega arith) (omega arith) t))
      where
        no : (b : Bool) → (b ≡ true → false ≡ true) → b ≡ false
        no true f = absurd (false≢true (f refl))
        no false f = refl
find_at p (x ∷ xs) (suc i) h k =
    ap (λ b. cond b (Some x) (find p xs)) (h 0 x (omega arith) (omega arith))
    ∙ find_at p xs i (λ j d a b. h (suc j) d (omega arith) (omega arith)) (λ j d a b t. k (suc j) d (omega arith) (omega arith) t)

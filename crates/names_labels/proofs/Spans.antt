-- A part of a list, from both ends.
use Rattle.std.specs.Prelude.{slice_get, None, Some}
use Rattle.std.proofs.Common.{◌≡◌, ℕ, zero, suc, ◌+◌, ◌-◌, ◌<◌, ◌≤◌, List, [], ◌∷◌, ◌++◌, length, take, drop, refl, sym, ap, ◌∙◌, arith, zero-add}
use Rattle.names_labels.proofs.Runs.{take_one, none_past}

drop_at_item : {X : Type 0} (xs : List X) (i : ℕ) (x : X) → Some x ≡ slice_get xs i → drop i xs ≡ x ∷ drop (suc i) xs
drop_at_item [] i x h = cc
drop_at_item (y ∷ xs) zero x h = let e : x ≡ y = cc in λ t. sym e t ∷ xs
drop_at_item (y ∷ xs) (suc i) x h = drop_at_item xs i x h

get-drop : {X : Type 0} (xs : List X) (f m : ℕ) → slice_get (drop f xs) m ≡ slice_get xs (f + m)
get-drop [] zero m = refl
get-drop [] (suc f) m = refl
get-drop (x ∷ xs) zero m = ap (slice_get (x ∷ xs)) (sym (zero-add m))
get-drop (x ∷ xs) (suc f) m = get-drop xs f m ∙ ap (slice_get (x ∷ xs)) (let e : suc (f + m) ≡ suc f + m = omega arith in e)

-- the items from one place up to another
abbrev pub span : {X : Type 0} → List X → ℕ → ℕ → List X
span xs front back = take (back - front) (drop front xs)

pub span_first : {X : Type 0} (xs : List X) (front back : ℕ) (x : X) → front < back → Some x ≡ slice_get xs front → span xs front back ≡ x ∷ span xs (front + 1) back
span_first xs front back x h e =
    ap (λ ys. take (back - front) ys) (drop_at_item xs front x e)
    ∙ ap (λ n. take n (x ∷ drop (suc front) xs)) (let m : back - front ≡ suc (back - suc front) = omega arith in m)
    ∙ ap (λ n. x ∷ take (back - n) (drop n xs)) (let m : suc front ≡ front + 1 = omega arith in m)

pub span_last : {X : Type 0} (xs : List X) (front back : ℕ) (x : X) → front < back → Some x ≡ slice_get xs (back - 1) → span xs front back ≡ span xs front (back - 1) ++ x ∷ []
span_last xs front back x h e =
    let m : back - front ≡ (back - 1 - front) + 1 = omega arith in
    let n : back - 1 ≡ front + (back - 1 - front) = omega arith in
    ap (λ k. take k (drop front xs)) m
    ∙ take_one (drop front xs) (back - 1 - front) x (e ∙ ap (slice_get xs) n ∙ sym (get-drop xs front (back - 1 - front)))

pub no_span : {X : Type 0} (xs : List X) (front back : ℕ) → back ≤ front → span xs front back ≡ []
no_span xs front back h = ap (λ k. take k (drop front xs)) (let m : back - front ≡ 0 = omega arith in m)

-- there is an item within the list
pub item_there : {X : Type 0} (xs : List X) (i : ℕ) → i < length xs → None ≡ slice_get xs i → ⊥
item_there xs i h e = absurd (omega (arith, none_past xs i e, h))

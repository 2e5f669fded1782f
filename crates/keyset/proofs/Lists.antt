-- Lists that are mapped, and their fronts.
use Rattle.std.proofs.Common.{◌++◌, take, ◌≡◌, ℕ, zero, suc, ◌+◌, add-one, Bool, ◌||◌, Some, List, [], ◌∷◌, map, refl, ap, ◌∙◌}
use Rattle.std.specs.Prelude.{slice_get}
use Rattle.std.specs.List.{list_any}

pub list_any-map : {A B : Type 0} (p : B → Bool) (f : A → B) (xs : List A) → list_any p (map f xs) ≡ list_any (λ x. p (f x)) xs
list_any-map p f [] = refl
list_any-map p f (x ∷ xs) = ap (λ b. p (f x) || b) (list_any-map p f xs)

pub map-map : {A B C : Type 0} (g : B → C) (f : A → B) (xs : List A) → map g (map f xs) ≡ map (λ x. g (f x)) xs
map-map g f [] = refl
map-map g f (x ∷ xs) = ap (λ ys. g (f x) ∷ ys) (map-map g f xs)

-- one more item of the front
take_suc : {X : Type 0} (xs : List X) (i : ℕ) (x : X) → Some x ≡ slice_get xs i → take (suc i) xs ≡ take i xs ++ x ∷ []
take_suc [] i x h = cc
take_suc (y ∷ xs) zero x h = let e : y ≡ x = cc in λ t. e t ∷ []
take_suc (y ∷ xs) (suc i) x h = ap (λ zs. y ∷ zs) (take_suc xs i x h)

pub take_one : {X : Type 0} (xs : List X) (i : ℕ) (x : X) → Some x ≡ slice_get xs i → take (i + 1) xs ≡ take i xs ++ x ∷ []
take_one xs i x h = ap (λ k. take k xs) (add-one i) ∙ take_suc xs i x h

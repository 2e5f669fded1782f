-- Parts of lists whose items are seen otherwise.
use Rattle.std.proofs.Common.{◌≡◌, ◌∙◌, ℕ, zero, suc, Bool, true, false, List, [], ◌∷◌, Some, ap, cond, drop, length, map, refl, sym, take}
use Rattle.std.specs.List.{find}
use Rattle.messages.proofs.Lists.{some_is}

pub map_take : {A B : Type 0} (f : A → B) (n : ℕ) (xs : List A) → map f (take n xs) ≡ take n (map f xs)
map_take f zero [] = refl
map_take f zero (x ∷ xs) = refl
map_take f (suc n) [] = refl
map_take f (suc n) (x ∷ xs) = ap (λ ys. f x ∷ ys) (map_take f n xs)

pub map_drop : {A B : Type 0} (f : A → B) (n : ℕ) (xs : List A) → map f (drop n xs) ≡ drop n (map f xs)
map_drop f zero [] = refl
map_drop f zero (x ∷ xs) = refl
map_drop f (suc n) [] = refl
map_drop f (suc n) (x ∷ xs) = map_drop f n xs

-- as many items, seen otherwise twice
pub length_both : {A B C : Type 0} (f : A → B) (g : B → C) (xs : List A) → length xs ≡ length (map g (map f xs))
length_both f g [] = refl
length_both f g (x ∷ xs) = ap suc (length_both f g xs)

-- what is found among items has what is sought
pub found_is : {A : Type 0} (p : A → Bool) (xs : List A) (x : A) → find p xs ≡ Some x → p x ≡ true
found_is p [] x e = cc
found_is p (y ∷ xs) x e = go (found_is p xs x) (p y) refl e
  where
    go : (find p xs ≡ Some x → p x ≡ true) → (b : Bool) → p y ≡ b → cond b (Some y) (find p xs) ≡ Some x → p x ≡ true
    go later true is h = ap p (sym (some_is y x h)) ∙ is
    go later false is h = later h

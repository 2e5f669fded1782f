-- What is made of the items of a list that pass a test, where the others come to nothing.
use Rattle.std.proofs.Common.{◌≡◌, Bool, true, false, ◌||◌, List, [], ◌∷◌, Option, Some, None, cond, refl, ap, ◌∙◌}
use Rattle.std.specs.List.{AllZip, cons_option, filter, filter_map, list_any}
use Rattle.denial_laws.specs.NsecRules.{first_some}

-- the items that don't pass come to nothing
pub some_picked : {A B : Type 0} (p : A → Bool) (f : A → Option B) (xs : List A) → ((x : A) → p x ≡ false → f x ≡ None) → filter_map f xs ≡ filter_map f (filter p xs)
some_picked p f [] none = refl
some_picked p f (x ∷ xs) none = go (p x) refl (some_picked p f xs none)
  where
    go : (b : Bool) → p x ≡ b → filter_map f xs ≡ filter_map f (filter p xs) → filter_map f (x ∷ xs) ≡ filter_map f (cond b (x ∷ filter p xs) (filter p xs))
    go true e rest = ap (cons_option (f x)) rest
    go false e rest = ap (λ o. cons_option o (filter_map f xs)) (none x e) ∙ rest

pub any_picked : {A : Type 0} (p : A → Bool) (f : A → Bool) (xs : List A) → ((x : A) → p x ≡ false → f x ≡ false) → list_any f xs ≡ list_any f (filter p xs)
any_picked p f [] none = refl
any_picked p f (x ∷ xs) none = go (p x) refl (any_picked p f xs none)
  where
    go : (b : Bool) → p x ≡ b → list_any f xs ≡ list_any f (filter p xs) → list_any f (x ∷ xs) ≡ list_any f (cond b (x ∷ filter p xs) (filter p xs))
    go true e rest = ap (λ c. f x || c) rest
    go false e rest = ap (λ c. c || list_any f xs) (none x e) ∙ rest

abbrev first_of : {B : Type 0} → Option B → Option B → Option B
first_of o rest = elim o [ None ↦ rest | Some y ↦ Some y ]

pub first_picked : {A B : Type 0} (p : A → Bool) (f : A → Option B) (xs : List A) → ((x : A) → p x ≡ false → f x ≡ None) → first_some f xs ≡ first_some f (filter p xs)
first_picked p f [] none = refl
first_picked p f (x ∷ xs) none = go (p x) refl (first_picked p f xs none)
  where
    go : (b : Bool) → p x ≡ b → first_some f xs ≡ first_some f (filter p xs) → first_some f (x ∷ xs) ≡ first_some f (cond b (x ∷ filter p xs) (filter p xs))
    go true e rest = ap (first_of (f x)) rest
    go false e rest = ap (λ o. first_of o (first_some f xs)) (none x e) ∙ rest

-- items that are paired come to the same
pub some_zipped : {A B : Type 0} (R : A → A → Type 0) (f g : A → Option B) (xs ys : List A) → ((x y : A) → R x y → f x ≡ g y) → AllZip R xs ys → filter_map f xs ≡ filter_map g ys
some_zipped R f g [] [] same z = refl
some_zipped R f g [] (y ∷ ys) same z = absurd z
some_zipped R f g (x ∷ xs) [] same z = absurd z
some_zipped R f g (x ∷ xs) (y ∷ ys) same z = λ i. cons_option (same x y z.0 i) (some_zipped R f g xs ys same z.1 i)

pub any_zipped : {A : Type 0} (R : A → A → Type 0) (f g : A → Bool) (xs ys : List A) → ((x y : A) → R x y → f x ≡ g y) → AllZip R xs ys → list_any f xs ≡ list_any g ys
any_zipped R f g [] [] same z = refl
any_zipped R f g [] (y ∷ ys) same z = absurd z
any_zipped R f g (x ∷ xs) [] same z = absurd z
any_zipped R f g (x ∷ xs) (y ∷ ys) same z = λ i. same x y z.0 i || any_zipped R f g xs ys same z.1 i

pub first_zipped : {A B : Type 0} (R : A → A → Type 0) (f g : A → Option B) (xs ys : List A) → ((x y : A) → R x y → f x ≡ g y) → AllZip R xs ys → first_some f xs ≡ first_some g ys
first_zipped R f g [] [] same z = refl
first_zipped R f g [] (y ∷ ys) same z = absurd z
first_zipped R f g (x ∷ xs) [] same z = absurd z
first_zipped R f g (x ∷ xs) (y ∷ ys) same z = λ i. first_of (same x y z.0 i) (first_zipped R f g xs ys same z.1 i)

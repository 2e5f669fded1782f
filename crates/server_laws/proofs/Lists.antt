-- Lists and tests.
use Rattle.std.proofs.Common.{◌≡◌, Bool, true, false, ◌&&◌, ◌||◌, List, [], ◌∷◌, ◌++◌, length, map, Option, Some, None, cond, inl, inr, refl, sym, ap, ◌∙◌, arith}
use Rattle.std.specs.List.{AllByRecursion, AllZip, filter, list_any}
use Rattle.std.specs.Option.{option_map}
use Rattle.std.proofs.lemmas.Bool.{true≢false}
use Rattle.definitions.proofs.Members.{In}

pub all_joined : {A : Type 0} (P : A → Type 0) (xs ys : List A) → AllByRecursion P xs → AllByRecursion P ys → AllByRecursion P (xs ++ ys)
all_joined P [] ys h k = k
all_joined P (x ∷ xs) ys h k = (h.0, all_joined P xs ys h.1 k)

pub filters_alike : {A : Type 0} (p r : A → Bool) (xs : List A) → ((x : A) → In x xs → p x ≡ r x) → filter p xs ≡ filter r xs
filters_alike p r [] same = refl
filters_alike p r (x ∷ xs) same = λ i. let rest = filters_alike p r xs (λ y h. same y (inr h)) i in cond (same x (inl refl) i) (x ∷ rest) rest

pub all_mapped : {A B : Type 0} (P : B → Type 0) (f : A → B) (xs : List A) → AllByRecursion (λ x. P (f x)) xs → AllByRecursion P (map f xs)
all_mapped P f [] h = tt
all_mapped P f (x ∷ xs) h = (h.0, all_mapped P f xs h.1)

pub is_empty : {A : Type 0} (xs : List A) → length xs ≡ 0 → xs ≡ []
is_empty [] e = refl
is_empty (x ∷ xs) e = absurd (omega (arith, e))

pub none_kept : {A : Type 0} (xs : List A) → filter (λ x. false) xs ≡ []
none_kept [] = refl
none_kept (x ∷ xs) = none_kept xs

pub as_many : {A B : Type 0} (R : A → B → Type 0) (xs : List A) (ys : List B) → AllZip R xs ys → length xs ≡ length ys
as_many R [] [] h = refl
as_many R [] (y ∷ ys) h = absurd h
as_many R (x ∷ xs) [] h = absurd h
as_many R (x ∷ xs) (y ∷ ys) h = omega (arith, as_many R xs ys h.1)

pub nothing : (b : Bool) → (b && false) ≡ false
nothing true = refl
nothing false = refl

-- the first of some items that pass
pub record FirstKept {A : Type 0} (p : A → Bool) (xs : List A) : Type 0 where
  pub item : A
  pub rest : List A
  pub kept_is : filter p xs ≡ item ∷ rest
  pub passes : p item ≡ true
  pub inside : In item xs

pub first_kept : {A : Type 0} (p : A → Bool) (xs : List A) → list_any p xs ≡ true → FirstKept p xs
first_kept p [] e = absurd (true≢false (sym e))
first_kept p (x ∷ xs) e = go (p x) refl e (λ h. first_kept p xs h)
  where
    go : (b : Bool) → p x ≡ b → (b || list_any p xs) ≡ true → (list_any p xs ≡ true → FirstKept p xs) → FirstKept p (x ∷ xs)
    go true h e more = record { item = x; rest = filter p xs; kept_is = ap (λ b. cond b (x ∷ filter p xs) (filter p xs)) h; passes = h; inside = inl refl }
    go false h e more =
        let later = more e in
        record { item = later.item; rest = later.rest; kept_is = ap (λ b. cond b (x ∷ filter p xs) (filter p xs)) h ∙ later.kept_is; passes = later.passes; inside = inr later.inside }

pub mapped_some : {A B : Type 0} (f : A → B) (o : Option A) (b : B) → option_map f o ≡ Some b → (a : A) × (o ≡ Some a) × (f a ≡ b)
mapped_some f None b e = absurd (let none : None ≡ Some b = e in cc)
mapped_some f (Some a) b e = (a, refl, let same : Some (f a) ≡ Some b = e in cc)

-- The first answer of some, and of two.
use Rattle.std.proofs.Common.{◌≡◌, List, [], ◌∷◌, Option, Some, None, refl, sym, ap, ◌∙◌, ◌⊎◌, inl, inr}
use Rattle.definitions.proofs.Members.{In}
use Rattle.denial_laws.specs.NsecRules.{first_some, or_else}

pub unlike_none : {A : Type 0} (o : Option A) (x : A) → o ≡ Some x → o ≡ None → ⊥
unlike_none o x e n = let d : Some x ≡ None = sym e ∙ n in cc

-- ---- of two

pub either_from : {A : Type 0} (a b : Option A) (x : A) → or_else a b ≡ Some x → (a ≡ Some x) ⊎ ((a ≡ None) × (b ≡ Some x))
either_from None b x h = inr (refl, h)
either_from (Some y) b x h = inl h

neither_from : {A : Type 0} (a b : Option A) → or_else a b ≡ None → (a ≡ None) × (b ≡ None)
neither_from None b h = (refl, h)
neither_from (Some y) b h = absurd cc

pub left_is : {A : Type 0} (a b : Option A) (x : A) → a ≡ Some x → (y : A) × (or_else a b ≡ Some y)
left_is None b x e = absurd cc
left_is (Some y) b x e = (y, refl)

pub right_is : {A : Type 0} (a b : Option A) (x : A) → b ≡ Some x → (y : A) × (or_else a b ≡ Some y)
right_is None b x e = (x, e)
right_is (Some y) b x e = (y, refl)

-- ---- of some

either_is : {B : Type 0} (o rest : Option B) → (elim o [ None ↦ rest | Some y ↦ Some y ]) ≡ or_else o rest
either_is None rest = refl
either_is (Some y) rest = refl

-- an answer comes from an item
pub first_from : {A B : Type 0} (f : A → Option B) (xs : List A) (y : B) → first_some f xs ≡ Some y → (x : A) × (In x xs × (f x ≡ Some y))
first_from f [] y h = absurd cc
first_from f (x ∷ xs) y h = elim (either_from (f x) (first_some f xs) y (sym (either_is (f x) (first_some f xs)) ∙ h)) [
  | inl e ↦ (x, (inl refl, e))
  | inr r ↦ let rest = first_from f xs y r.1 in (rest.0, (inr rest.1.0, rest.1.1))
]

-- without an answer no item has one
pub none_from : {A B : Type 0} (f : A → Option B) (xs : List A) → first_some f xs ≡ None → (x : A) → In x xs → f x ≡ None
none_from f [] h x i = absurd i
none_from f (x ∷ xs) h a i =
    let both = neither_from (f x) (first_some f xs) (sym (either_is (f x) (first_some f xs)) ∙ h) in
    elim i [
      | inl s ↦ ap f s ∙ both.0
      | inr j ↦ none_from f xs both.1 a j
    ]

-- an item with an answer makes one
pub first_is : {A B : Type 0} (f : A → Option B) (xs : List A) (x : A) (y : B) → In x xs → f x ≡ Some y → (b : B) × (first_some f xs ≡ Some b)
first_is f [] x y i e = absurd i
first_is {A} {B} f (z ∷ xs) x y i e =
    let found : (b : B) × (or_else (f z) (first_some f xs) ≡ Some b) = elim i [
      | inl s ↦ left_is (f z) (first_some f xs) y (ap f (sym s) ∙ e)
      | inr j ↦ let rest = first_is f xs x y j e in right_is (f z) (first_some f xs) rest.0 rest.1
    ] in
    (found.0, either_is (f z) (first_some f xs) ∙ found.1)

-- What a test or a function finds in a list.
use Rattle.std.proofs.Common.{◌≡◌, Bool, true, false, cond, List, [], ◌∷◌, map, Option, Some, None, refl, sym, ap, subst, ◌∙◌, inl, inr}
use Rattle.std.specs.List.{AllByRecursion, cons_option, filter, filter_map}
use Rattle.std.specs.Option.{option_map}
use Rattle.messages.proofs.Lists.{Has, some_is}

-- an item that is found in a list comes from one of the list
pub kept_from : {A B : Type 0} (f : A → Option B) (xs : List A) (y : B) → Has (filter_map f xs) y → (x : A) × Has xs x × (f x ≡ Some y)
kept_from f [] y h = absurd h
kept_from {A} {B} f (x ∷ xs) y h = go (f x) refl h (λ i. kept_from f xs y i)
  where
    go : (o : Option B) → f x ≡ o → Has (cons_option o (filter_map f xs)) y → (Has (filter_map f xs) y → (a : A) × Has xs a × (f a ≡ Some y)) → (a : A) × Has (x ∷ xs) a × (f a ≡ Some y)
    go None e i later = let r = later i in (r.0, inr r.1, r.2)
    go (Some b) e i later = elim i [
      | inl s ↦ (x, inl refl, e ∙ ap (λ (b : B). Some b) (sym s))
      | inr j ↦ let r = later j in (r.0, inr r.1, r.2)
    ]

-- and each such item is found
pub kept_has : {A B : Type 0} (f : A → Option B) (xs : List A) (x : A) (y : B) → Has xs x → f x ≡ Some y → Has (filter_map f xs) y
kept_has f [] x y h e = absurd h
kept_has {A} {B} f (z ∷ xs) x y h e = elim h [
  | inl s ↦ subst (λ o. Has (cons_option o (filter_map f xs)) y) (sym (ap f (sym s) ∙ e)) (inl refl)
  | inr i ↦ later (f z) (kept_has f xs x y i e)
]
  where
    later : (o : Option B) → Has (filter_map f xs) y → Has (cons_option o (filter_map f xs)) y
    later None j = j
    later (Some b) j = inr j

pub all_kept_of : {A B : Type 0} (P : B → Type 0) (f : A → Option B) (xs : List A) → ((x : A) (y : B) → Has xs x → f x ≡ Some y → P y) → AllByRecursion P (filter_map f xs)
all_kept_of P f [] h = tt
all_kept_of {A} {B} P f (x ∷ xs) h = go (f x) refl (all_kept_of P f xs (λ a y i e. h a y (inr i) e))
  where
    go : (o : Option B) → f x ≡ o → AllByRecursion P (filter_map f xs) → AllByRecursion P (cons_option o (filter_map f xs))
    go None e rest = rest
    go (Some b) e rest = (h x b (inl refl) e, rest)

pub none_kept_of : {A B : Type 0} (f : A → Option B) (xs : List A) → ((x : A) (y : B) → Has xs x → f x ≡ Some y → ⊥) → filter_map f xs ≡ []
none_kept_of f [] h = refl
none_kept_of {A} {B} f (x ∷ xs) h = go (f x) refl (none_kept_of f xs (λ a y i e. h a y (inr i) e))
  where
    go : (o : Option B) → f x ≡ o → filter_map f xs ≡ [] → cons_option o (filter_map f xs) ≡ []
    go None e rest = rest
    go (Some b) e rest = absurd (h x b (inl refl) e)

pub passes_has : {A : Type 0} (p : A → Bool) (xs : List A) (x : A) → Has (filter p xs) x → Has xs x × (p x ≡ true)
passes_has p [] x h = absurd h
passes_has {A} p (y ∷ ys) x h = go (p y) refl h (λ i. passes_has p ys x i)
  where
    go : (b : Bool) → p y ≡ b → Has (cond b (y ∷ filter p ys) (filter p ys)) x → (Has (filter p ys) x → Has ys x × (p x ≡ true)) → Has (y ∷ ys) x × (p x ≡ true)
    go true e i later = elim i [
      | inl s ↦ (inl s, ap p s ∙ e)
      | inr j ↦ let r = later j in (inr r.0, r.1)
    ]
    go false e i later = let r = later i in (inr r.0, r.1)

-- the only item of a list
pub only_item : {A : Type 0} (xs : List A) (d x : A) → xs ≡ d ∷ [] → Has xs x → x ≡ d
only_item xs d x e h = elim (subst (λ ys. Has ys x) e h) [ inl s ↦ s | inr i ↦ absurd i ]

-- what is kept where a test passes
pub when : {A : Type 0} (b : Bool) (o : Option A) (x : A) → elim b as (λ _. Option A) [ true ↦ o | false ↦ None ] ≡ Some x → (b ≡ true) × (o ≡ Some x)
when true o x e = (refl, e)
when false o x e = cc

pub mapped : {A B : Type 0} (f : A → B) (o : Option A) (y : B) → option_map f o ≡ Some y → (x : A) × (o ≡ Some x) × (f x ≡ y)
mapped f None y e = cc
mapped f (Some x) y e = (x, refl, some_is (f x) y e)

-- items of a mapped list, and of lists that are made of items
pub has_map : {A B : Type 0} (f : A → B) (xs : List A) (x : A) → Has xs x → Has (map f xs) (f x)
has_map f [] x h = absurd h
has_map f (y ∷ xs) x h = elim h [ inl e ↦ inl (ap f e) | inr i ↦ inr (has_map f xs x i) ]

pub has_from_map : {A B : Type 0} (f : A → B) (xs : List A) (y : B) → Has (map f xs) y → (x : A) × Has xs x × (y ≡ f x)
has_from_map f [] y h = absurd h
has_from_map f (x ∷ xs) y h = elim h [
  | inl e ↦ (x, inl refl, e)
  | inr later ↦ let r = has_from_map f xs y later in (r.0, inr r.1, r.2)
]

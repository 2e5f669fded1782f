-- What lists with the same items have in common.
use Rattle.std.proofs.Common.{◌≡◌, ℕ, zero, suc, ◌<◌, Bool, true, false, ◌&&◌, ◌||◌, cond, List, [], ◌∷◌, length, ◌++◌, map, get_or, refl, sym, ap, subst, ◌∙◌, ◌⊎◌, inl, inr, arith}
use Rattle.std.specs.Prelude.{filter}
use Rattle.std.specs.List.{list_any, flat_map, Contains}
use Rattle.std.specs.declared.cmp.Ordering.{Ordering}
use Rattle.std.specs.declared.cmp.Ordering.TheVariants.{Less, Equal, Greater}
use Rattle.std.specs.Ordering.{ordering_reverse}
use Rattle.std.specs.Cmp.{IsTotalOrder}
use Rattle.std.specs.FinMap.{IsAntisymmetric}
use Rattle.std.proofs.lemmas.Cmp.{tied_itself}
use Rattle.definitions.specs.Sorting.{put_by, put_all_by, sort_by}

-- an item of a list
abbrev pub In : {X : Type 0} → X → List X → Type 0
In x [] = ⊥
In x (y ∷ ys) = (x ≡ y) ⊎ In x ys

-- each item of the first is one of the second
abbrev pub Within : {X : Type 0} → List X → List X → Type 0
Within {X} xs ys = (x : X) → In x xs → In x ys

pub in_contained : {X : Type 0} (xs : List X) (x : X) (k : ℕ) → k < length xs → get_or xs k x ≡ x → In x xs
in_contained [] x k h e = absurd (omega arith)
in_contained (y ∷ ys) x zero h e = inl (sym e)
in_contained (y ∷ ys) x (suc k) h e = inr (in_contained ys x k (omega arith) e)

pub contained : {X : Type 0} (xs : List X) (x : X) → In x xs → Contains xs x
contained [] x h = absurd h
contained (y ∷ ys) x h = elim h [
  | inl e ↦ (0, omega arith, sym e)
  | inr later ↦ let c : Contains ys x = contained ys x later in (suc c.0, omega (arith, c.1), c.2)
]

pub within_contained : {X : Type 0} (xs ys : List X) → ((x : X) → Contains xs x → Contains ys x) → Within xs ys
within_contained xs ys f x h = let c : Contains ys x = f x (contained xs x h) in in_contained ys x c.0 c.1 c.2

-- ---- tests

pub either : (s t : Bool) → (s || t) ≡ true → (s ≡ true) ⊎ (t ≡ true)
either true t h = inl refl
either false t h = inr h

right_true : (s t : Bool) → t ≡ true → (s || t) ≡ true
right_true true t h = refl
right_true false t h = h

pub both_ways : (s t : Bool) → (s ≡ true → t ≡ true) → (t ≡ true → s ≡ true) → s ≡ t
both_ways true t f g = sym (f refl)
both_ways false true f g = g refl
both_ways false false f g = refl

pub any_in : {X : Type 0} (p : X → Bool) (xs : List X) (x : X) → In x xs → p x ≡ true → list_any p xs ≡ true
any_in p [] x h e = absurd h
any_in p (y ∷ ys) x h e = elim h [
  | inl same ↦ ap (λ b. b || list_any p ys) (ap p (sym same) ∙ e)
  | inr later ↦ right_true (p y) (list_any p ys) (any_in p ys x later e)
]

any_within : {X : Type 0} (p : X → Bool) (xs ys : List X) → Within xs ys → list_any p xs ≡ true → list_any p ys ≡ true
any_within p [] ys f h = absurd cc
any_within p (x ∷ xs) ys f h = elim (either (p x) (list_any p xs) h) [
  | inl here ↦ any_in p ys x (f x (inl refl)) here
  | inr later ↦ any_within p xs ys (λ y i. f y (inr i)) later
]

-- the same items pass a test or none
pub any_same : {X : Type 0} (p : X → Bool) (xs ys : List X) → Within xs ys → Within ys xs → list_any p xs ≡ list_any p ys
any_same p xs ys f g = both_ways (list_any p xs) (list_any p ys) (any_within p xs ys f) (any_within p ys xs g)

-- a test of what is kept of some items is a test of the items
any_first : {Y : Type 0} (p : Y → Bool) (b : Bool) (y : Y) (ys : List Y) → list_any p (cond b (y ∷ ys) ys) ≡ ((b && p y) || list_any p ys)
any_first p true y ys = refl
any_first p false y ys = refl

pub any_kept : {X Y : Type 0} (k p : Y → Bool) (g : X → Y) (xs : List X) → list_any p (filter k (map g xs)) ≡ list_any (λ x. k (g x) && p (g x)) xs
any_kept k p g [] = refl
any_kept k p g (x ∷ xs) = any_first p (k (g x)) (g x) (filter k (map g xs)) ∙ ap (λ b. (k (g x) && p (g x)) || b) (any_kept k p g xs)

-- ---- what is kept of the same items

-- an item of a mapped filter comes from an item that passes
pub record From {X Y : Type 0} (p : X → Bool) (g : X → Y) (xs : List X) (y : Y) : Type 0 where
  pub item : X
  pub inside : In item xs
  pub passes : p item ≡ true
  pub mapped : y ≡ g item

shifted : {X Y : Type 0} (p : X → Bool) (g : X → Y) (x : X) (xs : List X) (y : Y) → From p g xs y → From p g (x ∷ xs) y
shifted p g x xs y f = record { item = f.item; inside = inr f.inside; passes = f.passes; mapped = f.mapped }

from_first : {X Y : Type 0} (p : X → Bool) (g : X → Y) (b : Bool) (x : X) (xs ys : List X) (y : Y) → p x ≡ b → (In y (map g ys) → From p g xs y) → In y (map g (cond b (x ∷ ys) ys)) → From p g (x ∷ xs) y
from_first p g true x xs ys y e f h = elim h [
  | inl s ↦ record { item = x; inside = inl refl; passes = e; mapped = s }
  | inr i ↦ shifted p g x xs y (f i)
]
from_first p g false x xs ys y e f h = shifted p g x xs y (f h)

from_kept : {X Y : Type 0} (p : X → Bool) (g : X → Y) (xs : List X) (y : Y) → In y (map g (filter p xs)) → From p g xs y
from_kept p g [] y h = absurd h
from_kept p g (x ∷ xs) y h = from_first p g (p x) x xs (filter p xs) y refl (λ i. from_kept p g xs y i) h

first_kept : {X Y : Type 0} (g : X → Y) (b : Bool) (x : X) (ys : List X) → b ≡ true → In (g x) (map g (cond b (x ∷ ys) ys))
first_kept g true x ys h = inl refl
first_kept g false x ys h = absurd cc

later_kept : {X Y : Type 0} (g : X → Y) (b : Bool) (x : X) (ys : List X) (y : Y) → In y (map g ys) → In y (map g (cond b (x ∷ ys) ys))
later_kept g true x ys y i = inr i
later_kept g false x ys y i = i

to_kept : {X Y : Type 0} (p : X → Bool) (g : X → Y) (xs : List X) (x : X) → In x xs → p x ≡ true → In (g x) (map g (filter p xs))
to_kept p g [] x h e = absurd h
to_kept {X} {Y} p g (z ∷ xs) x h e = elim h [
  | inl s ↦ let P : X → Type 0 = λ w. In (g w) (map g (cond (p z) (z ∷ filter p xs) (filter p xs))) in subst P (sym s) (first_kept g (p z) z (filter p xs) (ap p (sym s) ∙ e))
  | inr i ↦ later_kept g (p z) z (filter p xs) (g x) (to_kept p g xs x i e)
]

-- the same items, filtered and mapped, are the same
pub kept_within : {X Y : Type 0} (p : X → Bool) (g : X → Y) (xs ys : List X) → Within xs ys → Within (map g (filter p xs)) (map g (filter p ys))
kept_within {X} {Y} p g xs ys f y h =
    let k : From p g xs y = from_kept p g xs y h in
    let P : Y → Type 0 = λ w. In w (map g (filter p ys)) in
    subst P (sym k.mapped) (to_kept p g ys k.item (f k.item k.inside) k.passes)

-- ---- items of filtered, mapped and joined lists

pub in_map : {X Y : Type 0} (f : X → Y) (xs : List X) (x : X) → In x xs → In (f x) (map f xs)
in_map f [] x h = absurd h
in_map f (y ∷ xs) x h = elim h [ inl e ↦ inl (ap f e) | inr i ↦ inr (in_map f xs x i) ]

-- an item of a list that is made of another
pub record Of {X Y : Type 0} (P : X → Y → Type 0) (xs : List X) (y : Y) : Type 0 where
  pub item : X
  pub inside : In item xs
  pub makes : P item y

later_of : {X Y : Type 0} (P : X → Y → Type 0) (x : X) (xs : List X) (y : Y) → Of P xs y → Of P (x ∷ xs) y
later_of P x xs y f = record { item = f.item; inside = inr f.inside; makes = f.makes }

pub map_in : {X Y : Type 0} (f : X → Y) (xs : List X) (y : Y) → In y (map f xs) → Of (λ x y. y ≡ f x) xs y
map_in f [] y h = absurd h
map_in f (x ∷ xs) y h = elim h [
  | inl e ↦ record { item = x; inside = inl refl; makes = e }
  | inr i ↦ later_of (λ x y. y ≡ f x) x xs y (map_in f xs y i)
]

pub in_append_left : {X : Type 0} (xs ys : List X) (x : X) → In x xs → In x (xs ++ ys)
in_append_left [] ys x h = absurd h
in_append_left (y ∷ xs) ys x h = elim h [ inl e ↦ inl e | inr i ↦ inr (in_append_left xs ys x i) ]

pub in_append_right : {X : Type 0} (xs ys : List X) (x : X) → In x ys → In x (xs ++ ys)
in_append_right [] ys x h = h
in_append_right (y ∷ xs) ys x h = inr (in_append_right xs ys x h)

pub append_in : {X : Type 0} (xs ys : List X) (x : X) → In x (xs ++ ys) → In x xs ⊎ In x ys
append_in [] ys x h = inr h
append_in (y ∷ xs) ys x h = elim h [
  | inl e ↦ inl (inl e)
  | inr i ↦ elim (append_in xs ys x i) [ inl j ↦ inl (inr j) | inr j ↦ inr j ]
]

pub in_flat : {X Y : Type 0} (f : X → List Y) (xs : List X) (x : X) (y : Y) → In x xs → In y (f x) → In y (flat_map f xs)
in_flat f [] x y h i = absurd h
in_flat {X} {Y} f (z ∷ xs) x y h i = elim h [
  | inl e ↦ in_append_left (f z) (flat_map f xs) y (let P : X → Type 0 = λ w. In y (f w) in subst P e i)
  | inr j ↦ in_append_right (f z) (flat_map f xs) y (in_flat f xs x y j i)
]

pub flat_in : {X Y : Type 0} (f : X → List Y) (xs : List X) (y : Y) → In y (flat_map f xs) → Of (λ x y. In y (f x)) xs y
flat_in f [] y h = absurd h
flat_in f (x ∷ xs) y h = elim (append_in (f x) (flat_map f xs) y h) [
  | inl i ↦ record { item = x; inside = inl refl; makes = i }
  | inr i ↦ later_of (λ x y. In y (f x)) x xs y (flat_in f xs y i)
]

first_in : {X : Type 0} (b : Bool) (x : X) (xs : List X) → b ≡ true → In x (cond b (x ∷ xs) xs)
first_in true x xs h = inl refl
first_in false x xs h = absurd cc

rest_in : {X : Type 0} (b : Bool) (y x : X) (xs : List X) → In x xs → In x (cond b (y ∷ xs) xs)
rest_in true y x xs h = inr h
rest_in false y x xs h = h

pub in_filter : {X : Type 0} (p : X → Bool) (xs : List X) (x : X) → In x xs → p x ≡ true → In x (filter p xs)
in_filter p [] x h e = absurd h
in_filter {X} p (y ∷ xs) x h e = elim h [
  | inl s ↦ let P : X → Type 0 = λ w. In w (cond (p y) (y ∷ filter p xs) (filter p xs)) in subst P (sym s) (first_in (p y) y (filter p xs) (ap p (sym s) ∙ e))
  | inr i ↦ rest_in (p y) y x (filter p xs) (in_filter p xs x i e)
]

cond_in : {X : Type 0} (b : Bool) (y x : X) (xs : List X) → In x (cond b (y ∷ xs) xs) → ((b ≡ true) × (x ≡ y)) ⊎ In x xs
cond_in true y x xs h = elim h [ inl e ↦ inl (refl, e) | inr i ↦ inr i ]
cond_in false y x xs h = inr h

pub filter_in : {X : Type 0} (p : X → Bool) (xs : List X) (x : X) → In x (filter p xs) → In x xs × (p x ≡ true)
filter_in p [] x h = absurd h
filter_in p (y ∷ xs) x h = elim (cond_in (p y) y x (filter p xs) h) [
  | inl e ↦ (inl e.1, ap p e.1 ∙ e.0)
  | inr i ↦ let r : In x xs × (p x ≡ true) = filter_in p xs x i in (inr r.0, r.1)
]

-- what passes a test that some item passes
pub any_of : {X : Type 0} (p : X → Bool) (xs : List X) → list_any p xs ≡ true → (x : X) × (In x xs × (p x ≡ true))
any_of p [] h = absurd cc
any_of p (x ∷ xs) h = elim (either (p x) (list_any p xs) h) [
  | inl e ↦ (x, (inl refl, e))
  | inr l ↦ let r = any_of p xs l in (r.0, (inr r.1.0, r.1.1))
]

-- ---- sorted, the same items are one list

module _ {A : Type 0} (R : A → A → Ordering) (o : IsTotalOrder R) where
  -- each item before the later ones
  abbrev pub Rises : List A → Type 0
  Rises [] = Unit {0}
  Rises (a ∷ xs) = ((x : A) → In x xs → R a x ≡ Less) × Rises xs

  -- what a list with one item put in has
  put_has : (a : A) (xs : List A) (x : A) → In x (put_by R a xs) → (x ≡ a) ⊎ In x xs
  put_has a [] x h = elim h [ inl e ↦ inl e | inr i ↦ absurd i ]
  put_has a (b ∷ bs) x h = go (R a b) h (λ i. put_has a bs x i)
    where
      go : (r : Ordering) → In x (elim r as (λ _. List A) [ Less ↦ a ∷ b ∷ bs | Equal ↦ b ∷ bs | Greater ↦ b ∷ put_by R a bs ]) → (In x (put_by R a bs) → (x ≡ a) ⊎ In x bs) → (x ≡ a) ⊎ In x (b ∷ bs)
      go Less h f = h
      go Equal h f = inr h
      go Greater h f = elim h [
        | inl e ↦ inr (inl e)
        | inr i ↦ elim (f i) [ inl e ↦ inl e | inr j ↦ inr (inr j) ]
      ]

  put_new : (a : A) (xs : List A) → ((b : A) → In b xs → R a b ≡ Equal → a ≡ b) → In a (put_by R a xs)
  put_new a [] f = inl refl
  put_new a (b ∷ bs) f = go (R a b) refl (put_new a bs (λ c i. f c (inr i)))
    where
      go : (r : Ordering) → R a b ≡ r → In a (put_by R a bs) → In a (elim r as (λ _. List A) [ Less ↦ a ∷ b ∷ bs | Equal ↦ b ∷ bs | Greater ↦ b ∷ put_by R a bs ])
      go Less e i = inl refl
      go Equal e i = inl (f b (inl refl) e)
      go Greater e i = inr i

  put_old : (a : A) (xs : List A) (x : A) → In x xs → In x (put_by R a xs)
  put_old a [] x h = absurd h
  put_old a (b ∷ bs) x h = go (R a b) (λ i. put_old a bs x i)
    where
      go : (r : Ordering) → (In x bs → In x (put_by R a bs)) → In x (elim r as (λ _. List A) [ Less ↦ a ∷ b ∷ bs | Equal ↦ b ∷ bs | Greater ↦ b ∷ put_by R a bs ])
      go Less f = inr h
      go Equal f = h
      go Greater f = elim h [ inl e ↦ inl e | inr i ↦ inr (f i) ]

  flipped : (x y : A) (r : Ordering) → R x y ≡ r → R y x ≡ ordering_reverse r
  flipped x y r e = o.antisymm y x ∙ ap ordering_reverse e

  put_rises : (a : A) (xs : List A) → Rises xs → Rises (put_by R a xs)
  put_rises a [] h = ((λ x i. absurd i), tt)
  put_rises a (b ∷ bs) h = go (R a b) refl (put_rises a bs h.1)
    where
      go : (r : Ordering) → R a b ≡ r → Rises (put_by R a bs) → Rises (elim r as (λ _. List A) [ Less ↦ a ∷ b ∷ bs | Equal ↦ b ∷ bs | Greater ↦ b ∷ put_by R a bs ])
      go Less e k = (
        (λ x i. elim i [
          | inl s ↦ ap (R a) s ∙ e
          | inr j ↦ o.trans a b x e (h.0 x j)
        ]),
        h,
      )
      go Equal e k = h
      go Greater e k = (
        (λ x i. elim (put_has a bs x i) [
          | inl s ↦ ap (R b) s ∙ flipped a b Greater e
          | inr j ↦ h.0 x j
        ]),
        k,
      )

  all_rises : (into xs : List A) → Rises into → Rises (put_all_by R into xs)
  all_rises into [] h = h
  all_rises into (x ∷ xs) h = all_rises (put_by R x into) xs (put_rises x into h)

  all_has : (into xs : List A) (x : A) → In x (put_all_by R into xs) → In x into ⊎ In x xs
  all_has into [] x h = inl h
  all_has into (y ∷ xs) x h = elim (all_has (put_by R y into) xs x h) [
    | inl i ↦ elim (put_has y into x i) [ inl e ↦ inr (inl e) | inr j ↦ inl j ]
    | inr i ↦ inr (inr i)
  ]

  all_old : (into xs : List A) (x : A) → In x into → In x (put_all_by R into xs)
  all_old into [] x h = h
  all_old into (y ∷ xs) x h = all_old (put_by R y into) xs x (put_old y into x h)

  -- items that compare equal are one
  abbrev pub ExactAmong : List A → Type 0
  ExactAmong xs = (a b : A) → In a xs → In b xs → R a b ≡ Equal → a ≡ b

  abbrev ExactIn : List A → List A → Type 0
  ExactIn into xs = (a b : A) → (In a into ⊎ In a xs) → (In b into ⊎ In b xs) → R a b ≡ Equal → a ≡ b

  put_among : (y : A) (into xs : List A) (a : A) → (In a (put_by R y into) ⊎ In a xs) → (In a into ⊎ In a (y ∷ xs))
  put_among y into xs a h = elim h [
    | inl i ↦ elim (put_has y into a i) [ inl e ↦ inr (inl e) | inr j ↦ inl j ]
    | inr i ↦ inr (inr i)
  ]

  all_new : (into xs : List A) (x : A) → ExactIn into xs → In x xs → In x (put_all_by R into xs)
  all_new into [] x f h = absurd h
  all_new into (y ∷ xs) x f h = elim h [
    | inl e ↦ all_old (put_by R y into) xs x (let P : A → Type 0 = λ w. In w (put_by R y into) in subst P (sym e) (put_new y into (λ b i q. f y b (inr (inl refl)) (inl i) q)))
    | inr i ↦ all_new (put_by R y into) xs x (λ a b s t q. f a b (put_among y into xs a s) (put_among y into xs b t) q) i
  ]

  among : (xs : List A) (a : A) → (In a [] ⊎ In a xs) → In a xs
  among xs a h = elim h [ inl i ↦ absurd i | inr i ↦ i ]

  pub sort_has : (xs : List A) (x : A) → In x (sort_by R xs) → In x xs
  sort_has xs x h = among xs x (all_has [] xs x h)

  pub sort_keeps : (xs : List A) (x : A) → ExactAmong xs → In x xs → In x (sort_by R xs)
  sort_keeps xs x f h = all_new [] xs x (λ a b s t q. f a b (among xs a s) (among xs b t) q) h

  pub sort_rises : (xs : List A) → Rises (sort_by R xs)
  sort_rises xs = all_rises [] xs tt

  pub not_less : (x : A) → R x x ≡ Less → ⊥
  not_less x e = let n : Equal ≡ Less = sym (tied_itself o x) ∙ e in cc

  heads_same : (x y : A) (xs ys : List A) → Rises (x ∷ xs) → Rises (y ∷ ys) → In x (y ∷ ys) → In y (x ∷ xs) → x ≡ y
  heads_same x y xs ys h k i j = elim i [
    | inl e ↦ e
    | inr later ↦ elim j [
      | inl e ↦ sym e
      | inr behind ↦ absurd (not_less x (o.trans x y x (h.0 y behind) (k.0 x later)))
    ]
  ]

  tails_within : (x y : A) (xs ys : List A) → Rises (x ∷ xs) → x ≡ y → Within (x ∷ xs) (y ∷ ys) → Within xs ys
  tails_within x y xs ys h e f z i = elim (f z (inr i)) [
    | inl s ↦ absurd (not_less x (ap (R x) (e ∙ sym s) ∙ h.0 z i))
    | inr j ↦ j
  ]

  -- lists that rise and have the same items are one
  pub rising_same : (xs ys : List A) → Rises xs → Rises ys → Within xs ys → Within ys xs → xs ≡ ys
  rising_same [] [] h k f g = refl
  rising_same [] (y ∷ ys) h k f g = absurd (g y (inl refl))
  rising_same (x ∷ xs) [] h k f g = absurd (f x (inl refl))
  rising_same (x ∷ xs) (y ∷ ys) h k f g =
      let e : x ≡ y = heads_same x y xs ys h k (f x (inl refl)) (g y (inl refl)) in
      let rest : xs ≡ ys = rising_same xs ys h.1 k.1 (tails_within x y xs ys h e f) (tails_within y x ys xs k (sym e) g) in
      λ i. e i ∷ rest i

  sort_within : IsAntisymmetric R → (xs ys : List A) → Within xs ys → Within (sort_by R xs) (sort_by R ys)
  sort_within exact xs ys f x h = sort_keeps ys x (λ a b _ _ q. exact a b q) (f x (sort_has xs x h))

  pub sort_same : IsAntisymmetric R → (xs ys : List A) → Within xs ys → Within ys xs → sort_by R xs ≡ sort_by R ys
  sort_same exact xs ys f g =
      rising_same (sort_by R xs) (sort_by R ys) (sort_rises xs) (sort_rises ys) (sort_within exact xs ys f)
      (sort_within exact ys xs g)

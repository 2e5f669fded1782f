-- The order of names and the names at or above a name.
use Rattle.std.proofs.Common.{◌≡◌, ℕ, Bool, true, false, ◌||◌, List, [], ◌∷◌, ◌++◌, reverse, refl, sym, ap, ◌∙◌, subst, inl, inr, ◌⊎◌}
use Rattle.std.specs.Str.{str_to_ascii_lowercase}
use Rattle.std.specs.declared.cmp.Ordering.{Ordering}
use Rattle.std.specs.declared.cmp.Ordering.TheVariants.{Less, Equal, Greater}
use Rattle.std.specs.Ordering.{nat_cmp, ordering_then, ordering_reverse}
use Rattle.std.specs.Cmp.{IsTotalOrder}
use Rattle.std.specs.Cmp.Lexicographic.{slice_cmp, pointwise_decides, bytes_decides}
use Rattle.std.specs.FinMap.{IsAntisymmetric, nat_cmp-IsAntisymmetric, slice_cmp-IsAntisymmetric}
use Rattle.std.proofs.lemmas.Cmp.{on_total, lists_total, nat_list_cmp_total, tied_itself}
use Rattle.std.proofs.lemmas.List.{reverse-reverse}
use Rattle.std.proofs.lemmas.Grind.{reverse_onto}
use Rattle.definitions.specs.Name.{Name, low, from_root, same, labels_eq, name_cmp, at_or_above}
use Rattle.definitions.proofs.Members.{either}

-- the order of labels, each octet by octet
abbrev label_cmp : List ℕ → List ℕ → Ordering
label_cmp = slice_cmp nat_cmp

label_cmp_exact : IsAntisymmetric label_cmp
label_cmp_exact = slice_cmp-IsAntisymmetric nat_cmp-IsAntisymmetric

pub name_cmp_total : IsTotalOrder name_cmp
name_cmp_total = on_total from_root (lists_total nat_list_cmp_total)

-- ---- equal names

pub labels_decide : (a b : Name) → (labels_eq a b ≡ true → a ≡ b) × (a ≡ b → labels_eq a b ≡ true)
labels_decide = pointwise_decides bytes_decides

low_of_from_root : (a b : Name) → from_root a ≡ from_root b → low a ≡ low b
low_of_from_root a b e = sym (reverse-reverse (low a)) ∙ ap reverse e ∙ reverse-reverse (low b)

pub equal_is_same : (a b : Name) → name_cmp a b ≡ Equal → same a b ≡ true
equal_is_same a b e = (labels_decide (low a) (low b)).1 (low_of_from_root a b (slice_cmp-IsAntisymmetric label_cmp_exact (from_root a) (from_root b) e))

pub same_is_equal : (a b : Name) → same a b ≡ true → name_cmp a b ≡ Equal
same_is_equal a b h =
    let e : from_root a ≡ from_root b = ap reverse ((labels_decide (low a) (low b)).0 h) in
    let P : Name → Type 0 = λ x. slice_cmp label_cmp (from_root a) x ≡ Equal in
    subst P e (tied_itself (lists_total nat_list_cmp_total) (from_root a))

-- ---- names at or above a name begin it, from the root

abbrev pub Begins : Name → Name → Type 0
Begins [] ys = Unit {0}
Begins (x ∷ xs) [] = ⊥
Begins (x ∷ xs) (y ∷ ys) = (x ≡ y) × Begins xs ys

begins_itself : (p : Name) → Begins p p
begins_itself [] = tt
begins_itself (x ∷ xs) = (refl, begins_itself xs)

begins_more : (p xs ys : Name) → Begins p xs → Begins p (xs ++ ys)
begins_more [] xs ys h = tt
begins_more (l ∷ p) [] ys h = absurd h
begins_more (l ∷ p) (x ∷ xs) ys h = (h.0, begins_more p xs ys h.1)

-- what begins one label more is all of it, or begins the rest
begins_less : (p xs : Name) (y : List ℕ) → Begins p (xs ++ y ∷ []) → (p ≡ xs ++ y ∷ []) ⊎ Begins p xs
begins_less [] xs y h = inr tt
begins_less (l ∷ []) [] y h = inl (λ i. h.0 i ∷ [])
begins_less (l ∷ k ∷ p) [] y h = absurd h.1
begins_less (l ∷ p) (x ∷ xs) y h = elim (begins_less p xs y h.1) [
  | inl e ↦ inl (λ i. h.0 i ∷ e i)
  | inr b ↦ inr (h.0, b)
]

from_root_more : (l : List ℕ) (m : Name) → from_root (l ∷ m) ≡ from_root m ++ str_to_ascii_lowercase l ∷ []
from_root_more l m = reverse_onto (low m) (str_to_ascii_lowercase l) []

left_true : (s t : Bool) → s ≡ true → (s || t) ≡ true
left_true s t h = ap (λ b. b || t) h

right_true : (s t : Bool) → t ≡ true → (s || t) ≡ true
right_true true t h = refl
right_true false t h = h

same_begins : (n m : Name) → same n m ≡ true → Begins (from_root n) (from_root m)
same_begins n m h =
    let e : from_root n ≡ from_root m = ap reverse ((labels_decide (low n) (low m)).0 h) in
    let P : Name → Type 0 = λ x. Begins (from_root n) x in
    subst P e (begins_itself (from_root n))

pub above_begins : (n m : Name) → at_or_above n m ≡ true → Begins (from_root n) (from_root m)
above_begins n [] h = same_begins n [] h
above_begins n (l ∷ m) h = elim (either (same n (l ∷ m)) (at_or_above n m) h) [
  | inl s ↦ same_begins n (l ∷ m) s
  | inr a ↦ let P : Name → Type 0 = λ x. Begins (from_root n) x in subst P (sym (from_root_more l m)) (begins_more (from_root n) (from_root m) (str_to_ascii_lowercase l ∷ []) (above_begins n m a))
]

same_of_from_root : (n m : Name) → from_root n ≡ from_root m → same n m ≡ true
same_of_from_root n m e = (labels_decide (low n) (low m)).1 (low_of_from_root n m e)

begins_empty : (p : Name) → Begins p [] → p ≡ []
begins_empty [] h = refl
begins_empty (x ∷ xs) h = absurd h

pub begins_above : (n m : Name) → Begins (from_root n) (from_root m) → at_or_above n m ≡ true
begins_above n [] h = same_of_from_root n [] (begins_empty (from_root n) h)
begins_above n (l ∷ m) h =
    let P : Name → Type 0 = λ x. Begins (from_root n) x in
    elim (begins_less (from_root n) (from_root m) (str_to_ascii_lowercase l) (subst P (from_root_more l m) h)) [
      | inl e ↦ left_true (same n (l ∷ m)) (at_or_above n m) (same_of_from_root n (l ∷ m) (e ∙ sym (from_root_more l m)))
      | inr b ↦ right_true (same n (l ∷ m)) (at_or_above n m) (begins_above n m b)
    ]

-- ---- what lies between two names that begin alike begins so

abbrev IsLe : Name → Name → Type 0
IsLe xs ys = slice_cmp label_cmp xs ys ≡ Greater → ⊥

between : (p x y z : Name) → Begins p x → Begins p z → IsLe x y → IsLe y z → Begins p y
between [] x y z hx hz xy yz = tt
between (l ∷ p) (a ∷ x) [] z hx hz xy yz = absurd (xy refl)
between (l ∷ p) (a ∷ x) (b ∷ y) (c ∷ z) hx hz xy yz =
    let ac : a ≡ c = sym hx.0 ∙ hz.0 in
    elim (label_cmp a b) as (λ r. label_cmp a b ≡ r → (ordering_then r (slice_cmp label_cmp x y) ≡ Greater → ⊥) → (l ≡ b) × Begins p y) [
      | Less ↦ λ e _. absurd (yz (ap (λ q. ordering_then q (slice_cmp label_cmp y z)) (nat_list_cmp_total.antisymm b c ∙ ap ordering_reverse (ap (λ q. label_cmp q b) (sym ac) ∙ e))))
      | Equal ↦ λ e h.
          let ab : a ≡ b = label_cmp_exact a b e in
          let bc : label_cmp b c ≡ Equal = ap (λ q. label_cmp q c) (sym ab ∙ ac) ∙ tied_itself nat_list_cmp_total c in
          (hx.0 ∙ ab, between p x y z hx.1 hz.1 h (λ g. yz (ap (λ q. ordering_then q (slice_cmp label_cmp y z)) bc ∙ g)))
      | Greater ↦ λ e h. absurd (h refl)
    ] refl xy
between (l ∷ p) [] y z hx hz xy yz = absurd hx
between (l ∷ p) (a ∷ x) (b ∷ y) [] hx hz xy yz = absurd hz

pub interval : (apex a m b : Name) → at_or_above apex a ≡ true → at_or_above apex b ≡ true → (name_cmp a m ≡ Greater → ⊥) → (name_cmp m b ≡ Greater → ⊥) → at_or_above apex m ≡ true
interval apex a m b ha hb am mb = begins_above apex m (between (from_root apex) (from_root a) (from_root m) (from_root b) (above_begins apex a ha) (above_begins apex b hb) am mb)

begins_le : (p x : Name) → Begins p x → IsLe p x
begins_le [] [] h e = cc
begins_le [] (x ∷ xs) h e = cc
begins_le (l ∷ p) [] h e = absurd h
begins_le (l ∷ p) (x ∷ xs) h e = begins_le p xs h.1 (sym (ap (λ q. ordering_then q (slice_cmp label_cmp p xs)) (ap (label_cmp l) (sym h.0) ∙ tied_itself nat_list_cmp_total l)) ∙ e)

pub apex_first : (apex m : Name) → at_or_above apex m ≡ true → name_cmp apex m ≡ Greater → ⊥
apex_first apex m h = begins_le (from_root apex) (from_root m) (above_begins apex m h)

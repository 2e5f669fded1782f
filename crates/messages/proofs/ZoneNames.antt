-- Names up to case.
use Rattle.std.proofs.Common.{◌≡◌, ℕ, true, ◌||◌, List, [], ◌∷◌, reverse, refl, sym, ap, ◌∙◌, arith}
use Rattle.std.specs.declared.cmp.Ordering.TheVariants.{Equal}
use Rattle.std.specs.Char.{to_ascii_lowercase}
use Rattle.std.specs.Str.{str_to_ascii_lowercase}
use Rattle.std.specs.FinMap.{nat_cmp-IsAntisymmetric, slice_cmp-IsAntisymmetric}
use Rattle.std.specs.Cmp.Lexicographic.{slice_cmp}
use Rattle.std.specs.Ordering.{nat_cmp}
use Rattle.std.proofs.lemmas.Cmp.{tied_itself, lists_total, nat_list_cmp_total}
use Rattle.std.proofs.lemmas.List.{reverse-reverse}
use lib.Pointwise.{pointwise_decides, bytes_decides}
use Rattle.definitions.specs.Name.{Name, low, labels_eq, same, at_or_above, strictly_above, from_root, name_cmp}

labels_decides : (a b : Name) → (labels_eq a b ≡ true → a ≡ b) × (a ≡ b → labels_eq a b ≡ true)
labels_decides a b = pointwise_decides bytes_decides a b

pub same_labels : (a b : Name) → labels_eq a b ≡ true → a ≡ b
same_labels a b = (labels_decides a b).0

pub labels_eq-same : (a b : Name) → a ≡ b → labels_eq a b ≡ true
labels_eq-same a b = (labels_decides a b).1

lower-lower : (c : ℕ) → to_ascii_lowercase (to_ascii_lowercase c) ≡ to_ascii_lowercase c
lower-lower c = grind arith

lowercase-lowercase : (l : List ℕ) → str_to_ascii_lowercase (str_to_ascii_lowercase l) ≡ str_to_ascii_lowercase l
lowercase-lowercase [] = refl
lowercase-lowercase (c ∷ l) = λ i. lower-lower c i ∷ lowercase-lowercase l i

pub low-low : (n : Name) → low (low n) ≡ low n
low-low [] = refl
low-low (l ∷ n) = λ i. lowercase-lowercase l i ∷ low-low n i

pub same-low : (n m : Name) → same (low n) (low m) ≡ same n m
same-low n m = λ i. labels_eq (low-low n i) (low-low m i)

pub at_or_above-low : (n m : Name) → at_or_above (low n) (low m) ≡ at_or_above n m
at_or_above-low n [] = same-low n []
at_or_above-low n (l ∷ m) = λ i. same-low n (l ∷ m) i || at_or_above-low n m i

pub strictly_above-low : (n m : Name) → strictly_above (low n) (low m) ≡ strictly_above n m
strictly_above-low n [] = refl
strictly_above-low n (l ∷ m) = at_or_above-low n m

pub name_cmp-low : (a b : Name) → name_cmp (low a) (low b) ≡ name_cmp a b
name_cmp-low a b = λ i. slice_cmp (slice_cmp nat_cmp) (reverse (low-low a i)) (reverse (low-low b i))

pub low_from_Equal : (a b : Name) → name_cmp a b ≡ Equal → low a ≡ low b
low_from_Equal a b e =
    let r = slice_cmp-IsAntisymmetric (slice_cmp-IsAntisymmetric nat_cmp-IsAntisymmetric) (from_root a) (from_root b) e in
    sym (reverse-reverse (low a)) ∙ ap reverse r ∙ reverse-reverse (low b)

pub name_cmp-same : (a b : Name) → low a ≡ low b → name_cmp a b ≡ Equal
name_cmp-same a b e = let o = lists_total nat_list_cmp_total in ap (λ n. slice_cmp (slice_cmp nat_cmp) (reverse n) (from_root b)) e ∙ tied_itself o (from_root b)

-- The laws of comparing names.
use Rattle.std.proofs.Common.{◌≡◌, Bool, true, false, refl, sym, ap, ◌∙◌}
use Rattle.std.specs.Prelude.{Some, reverse}
use Rattle.std.specs.Ordering.{nat_cmp, eq_by_cmp}
use Rattle.std.specs.Cmp.{IsEquivalence, IsTotalOrder, IsPartialOrder, on_equiv, on_total, partial_order_from_total, partial_order_from_own_ties}
use Rattle.std.specs.Cmp.Lexicographic.{slice_cmp, lists_ties, texts_ties, pointwise_decides}
use Rattle.std.proofs.lemmas.Slice.Eq.{bytes_eq-Decides}
use Rattle.std.proofs.lemmas.List.{reverse-reverse}
use Rattle.std.proofs.lemmas.Cmp.{nat_list_eq_equiv, nat_list_cmp_total, lists_equiv, lists_total}
use Rattle.names_wire.specs.Name.{Name, low, from_root, labels_eq, same, name_cmp}

pub same_equivalence : IsEquivalence same
same_equivalence = on_equiv low (lists_equiv nat_list_eq_equiv)

pub name_cmp_total : IsTotalOrder name_cmp
name_cmp_total = on_total from_root (lists_total nat_list_cmp_total)

bools : (s t : Bool) → (s ≡ true → t ≡ true) → (t ≡ true → s ≡ true) → s ≡ t
bools true t f g = sym (f refl)
bools false true f g = g refl
bools false false f g = refl

-- labels are the same from the right where they are from the left
labels_eq-reverse : (m n : Name) → labels_eq m n ≡ labels_eq (reverse m) (reverse n)
labels_eq-reverse m n =
    let d = pointwise_decides bytes_eq-Decides in
    bools (labels_eq m n) (labels_eq (reverse m) (reverse n))
    (λ h. (d (reverse m) (reverse n)).1 (ap reverse ((d m n).0 h)))
    (λ h. (d m n).1 (sym (reverse-reverse m) ∙ ap reverse ((d (reverse m) (reverse n)).0 h) ∙ reverse-reverse n))

-- names are the same where neither comes first
pub name_cmp_ties : (m n : Name) → same m n ≡ eq_by_cmp name_cmp m n
name_cmp_ties m n = labels_eq-reverse (low m) (low n) ∙ lists_ties (slice_cmp nat_cmp) texts_ties (from_root m) (from_root n)

pub name_cmp_partial : IsPartialOrder same (λ m n. Some (name_cmp m n))
name_cmp_partial = partial_order_from_own_ties (partial_order_from_total name_cmp_total) name_cmp_ties

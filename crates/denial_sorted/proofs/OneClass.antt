-- Records in order, the first and the last of which are of one class.
use Rattle.std.proofs.Common.{◌≡◌, ℕ, zero, suc, ◌-◌, ◌≤◌, List, [], ◌∷◌, length, refl, sym, ap, ◌∙◌, Some, option_map, arith, inl, inr}
use Rattle.std.proofs.lemmas.Bool.{cases_lt}
use Rattle.std.proofs.lemmas.Map.Keys.{sorted_head, sorted_tail}
use Rattle.std.specs.Cmp.{nat_cmp_is}
use Rattle.std.specs.declared.cmp.Ordering.{Ordering}
use Rattle.std.specs.declared.cmp.Ordering.TheVariants.{Less, Greater}
use Rattle.std.specs.List.{AllByRecursion, slice_get}
use Rattle.std.specs.List.Sorted.{IsStrictlySortedBy}
use Rattle.std.specs.Ordering.{nat_cmp, ordering_then}
use Rattle.definitions.specs.Name.{Name, name_cmp}
use Rattle.plain.specs.Records.{record_canonical_cmp}
use Rattle.plain.specs.declared.record.Record.{Record}
use Rattle.denial_rrsets.proofs.Grouped.{all_more}

module _ {N D : Type 0} (name : N → Name) (rtype : D → ℕ) (by_data : D → D → Ordering) where
  abbrev by : Record N D → Record N D → Ordering
  by = record_canonical_cmp name rtype by_data

  class_rises : (a b : Record N D) → by a b ≡ Less → a.class ≤ b.class
  class_rises a b h = elim (cases_lt b.class a.class) [
    | inl l ↦
        let g : Greater ≡ nat_cmp a.class b.class = nat_cmp_is a.class b.class Greater l in
        let w : Greater ≡ Less = ap (λ c. ordering_then c (ordering_then (name_cmp (name a.owner) (name b.owner)) (ordering_then (nat_cmp (rtype a.content) (rtype b.content)) (by_data a.content b.content)))) g ∙ h in
        absurd cc
    | inr l ↦ l
  ]

  up_to_last : (rs : List (Record N D)) (i : ℕ) (z : Record N D) → i ≡ length rs - 1 → IsStrictlySortedBy by rs → slice_get rs i ≡ Some z → AllByRecursion (λ r. r.class ≤ z.class) rs
  up_to_last [] i z e h g = tt
  up_to_last (x ∷ []) zero z e h g = let same : Some x.class ≡ Some z.class = ap (λ o. option_map (λ r. r.class) o) g in let one : x.class ≡ z.class = cc in (omega arith, tt)
  up_to_last (x ∷ []) (suc i) z e h g = absurd (omega arith)
  up_to_last (x ∷ y ∷ ys) zero z e h g = absurd (omega arith)
  up_to_last (x ∷ y ∷ ys) (suc i) z e h g =
      let rest = up_to_last (y ∷ ys) i z (omega arith) (sorted_tail by x (y ∷ ys) h) g in
      let first = class_rises x y (sorted_head by x (y ∷ ys) h).0 in
      (omega (arith, rest.0), rest)

  both : (c : ℕ) (rs : List (Record N D)) → AllByRecursion (λ r. c ≤ r.class) rs → AllByRecursion (λ r. r.class ≤ c) rs → AllByRecursion (λ r. r.class ≡ c) rs
  both c [] f g = tt
  both c (x ∷ xs) f g = (omega (arith, f.0, g.0), both c xs f.1 g.1)

  pub one_class : (rs : List (Record N D)) (a z : Record N D) (c : ℕ) → IsStrictlySortedBy by rs → Some a ≡ slice_get rs 0 → Some z ≡ slice_get rs (length rs - 1) → a.class ≡ c → z.class ≡ c → AllByRecursion (λ r. r.class ≡ c) rs
  one_class [] a z c h f g d e = tt
  one_class (x ∷ xs) a z c h f g d e =
      let same : Some a.class ≡ Some x.class = ap (λ o. option_map (λ r. r.class) o) f in
      let one : a.class ≡ x.class = cc in
      let front = all_more (λ r. by x r ≡ Less) (λ r. c ≤ r.class) xs (λ r l. let m = class_rises x r l in omega arith) (sorted_head by x xs h) in
      let back = all_more (λ r. r.class ≤ z.class) (λ r. r.class ≤ c) (x ∷ xs) (λ r l. omega arith) (up_to_last (x ∷ xs) (length (x ∷ xs) - 1) z refl h (sym g)) in
      both c (x ∷ xs) (omega arith, front) back

-- Each item strictly before the next: all before all later ones.
use Rattle.std.proofs.Common.{◌≡◌, ◌↔◌, Bool, true, List, [], ◌∷◌, refl, sym, ap, ◌∙◌, IsTrue}
use Rattle.std.specs.List.{AllByRecursion}
use Rattle.std.specs.List.Sorted.{IsStrictlySortedBy}
use Rattle.std.specs.declared.cmp.Ordering.{Ordering}
use Rattle.std.specs.declared.cmp.Ordering.TheVariants.{Less, Equal, Greater}
use Rattle.std.specs.Ordering.{is_lt}
use Rattle.std.specs.Cmp.{IsTotalOrder}
use Rattle.definitions.proofs.ZoneNames.{and_from, and_parts}
use Rattle.denial_chain_owners.specs.Conditions.{climbs}

is_less : (o : Ordering) → is_lt o ≡ true → o ≡ Less
is_less Less e = refl
is_less Equal e = absurd cc
is_less Greater e = absurd cc

module _ {A : Type 0} (cmp : A → A → Ordering) (o : IsTotalOrder cmp) where
  all_further : (x y : A) (ys : List A) → cmp x y ≡ Less → AllByRecursion (λ z. cmp y z ≡ Less) ys → AllByRecursion (λ z. cmp x z ≡ Less) ys
  all_further x y [] l h = tt
  all_further x y (z ∷ ys) l h = (o.trans x y z l h.0, all_further x y ys l h.1)

  climb_sorted : (xs : List A) → climbs cmp xs ≡ true → IsStrictlySortedBy cmp xs
  unfolding IsStrictlySortedBy
  climb_sorted [] h = tt
  climb_sorted (x ∷ []) h = (tt, tt)
  climb_sorted (x ∷ y ∷ ys) h =
      let p = and_parts (is_lt (cmp x y)) (climbs cmp (y ∷ ys)) h in
      let l : cmp x y ≡ Less = is_less (cmp x y) p.0 in
      let r : IsStrictlySortedBy cmp (y ∷ ys) = climb_sorted (y ∷ ys) p.1 in
      ((l, all_further x y ys l r.0), r)

  sorted_climb : (xs : List A) → IsStrictlySortedBy cmp xs → climbs cmp xs ≡ true
  unfolding IsStrictlySortedBy
  sorted_climb [] h = refl
  sorted_climb (x ∷ []) h = refl
  sorted_climb (x ∷ y ∷ ys) h = and_from (is_lt (cmp x y)) (climbs cmp (y ∷ ys)) (ap is_lt h.0.0) (sorted_climb (y ∷ ys) h.1)

  pub climbs_iff : (b : Bool) (xs : List A) → b ≡ climbs cmp xs → IsTrue b ↔ IsStrictlySortedBy cmp xs
  climbs_iff b xs e = ((λ h. climb_sorted xs (sym e ∙ h)), (λ h. e ∙ sorted_climb xs h))

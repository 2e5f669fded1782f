-- The order of octets in two parts.
use Rattle.std.proofs.Common.{◌≡◌, ℕ, List, [], ◌∷◌, ◌++◌, length, refl, sym, ap, ◌∙◌, arith}
use Rattle.std.specs.declared.cmp.Ordering.{Ordering}
use Rattle.std.specs.declared.cmp.Ordering.TheVariants.{Less, Equal, Greater}
use Rattle.std.specs.Ordering.{nat_cmp, ordering_then}
use Rattle.std.specs.Cmp.{ranked}
use Rattle.std.specs.Cmp.Lexicographic.{slice_cmp}
use Rattle.denial_fields.specs.Counted.{counted}

pub then_assoc : (o p q : Ordering) → ordering_then (ordering_then o p) q ≡ ordering_then o (ordering_then p q)
then_assoc Less p q = refl
then_assoc Equal p q = refl
then_assoc Greater p q = refl

-- equally long parts decide before what is behind them
pub parts_then : (a b x y : List ℕ) → length a ≡ length b → slice_cmp nat_cmp (a ++ x) (b ++ y) ≡ ordering_then (slice_cmp nat_cmp a b) (slice_cmp nat_cmp x y)
parts_then [] [] x y h = refl
parts_then [] (d ∷ b) x y h = absurd (omega arith)
parts_then (c ∷ a) [] x y h = absurd (omega arith)
parts_then (c ∷ a) (d ∷ b) x y h =
    ap (ordering_then (nat_cmp c d)) (parts_then a b x y (omega arith)) ∙ sym (then_assoc (nat_cmp c d) (slice_cmp nat_cmp a b) (slice_cmp nat_cmp x y))

-- and so do octets behind their number
pub counted_then : (a b x y : List ℕ) → slice_cmp nat_cmp (counted a ++ x) (counted b ++ y) ≡ ordering_then (slice_cmp nat_cmp (counted a) (counted b)) (slice_cmp nat_cmp x y)
counted_then a b x y = go (nat_cmp (length a) (length b)) refl
  where
    go : (o : Ordering) → nat_cmp (length a) (length b) ≡ o → ordering_then o (slice_cmp nat_cmp (a ++ x) (b ++ y)) ≡ ordering_then (ordering_then o (slice_cmp nat_cmp a b)) (slice_cmp nat_cmp x y)
    go Less e = refl
    go Equal e = parts_then a b x y (ranked (length a) (length b) Equal (sym e))
    go Greater e = refl

-- Comparing octets with ASCII letters lowered, place by place.
use Rattle.std.proofs.Common.{◌≡◌, ℕ, ◌+◌, ◌<◌, ◌⊎◌, List, [], ◌∷◌, length, sym, ◌∙◌, inl, inr, arith}
use Rattle.std.specs.Ordering.{nat_cmp, MatchOrdering}
use Rattle.std.specs.Cmp.Lexicographic.{slice_cmp}
use Rattle.std.specs.Cmp.{nat_cmp_is}
use Rattle.std.specs.Str.{str_to_ascii_lowercase}

-- the answer for what is left of two sides is that for the whole
pub record Remains (left right xs ys : List ℕ) : Type 0 where
  pub order : slice_cmp nat_cmp (str_to_ascii_lowercase left) (str_to_ascii_lowercase right) ≡ slice_cmp nat_cmp (str_to_ascii_lowercase xs) (str_to_ascii_lowercase ys)
  pub lengths : length xs + length right ≡ length ys + length left

-- where one side ends the lengths decide
pub ended : (left right us vs : List ℕ) → Remains left right us vs → (length us ≡ 0) ⊎ (length vs ≡ 0) → nat_cmp (length left) (length right) ≡ slice_cmp nat_cmp (str_to_ascii_lowercase left) (str_to_ascii_lowercase right)
ended left right us vs r h =
    sym (r.order ∙ nat_cmp_is (length left) (length right) (slice_cmp nat_cmp (str_to_ascii_lowercase us) (str_to_ascii_lowercase vs)) (cases us vs h r.lengths))
  where
    cases : (us vs : List ℕ) → (length us ≡ 0) ⊎ (length vs ≡ 0) → length us + length right ≡ length vs + length left → MatchOrdering (slice_cmp nat_cmp (str_to_ascii_lowercase us) (str_to_ascii_lowercase vs)) (length left < length right) (length left ≡ length right) (length right < length left)
    cases [] [] h l = omega (arith, l)
    cases [] (v ∷ vs) h l = omega (arith, l)
    cases (u ∷ us) [] h l = omega (arith, l)
    cases (u ∷ us) (v ∷ vs) (inl h) l = absurd (omega (arith, h))
    cases (u ∷ us) (v ∷ vs) (inr h) l = absurd (omega (arith, h))

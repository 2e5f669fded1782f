-- How many digits octets have: eight for five.
use Rattle.std.proofs.Common.{ℕ, ◌+◌, ◌*◌, ◌≤◌, List, [], ◌∷◌, length, arith}
use Rattle.definitions.specs.Base32hex.{base32hex}
use Rattle.definitions.specs.Name.{Name}
use Rattle.denial_nsec3_hash.specs.Hashing.{FitsName}

pub digits_least : (h : List ℕ) → 8 * length h ≤ 5 * length (base32hex h)
digits_least [] = omega arith
digits_least (a ∷ []) = omega arith
digits_least (a ∷ b ∷ []) = omega arith
digits_least (a ∷ b ∷ c ∷ []) = omega arith
digits_least (a ∷ b ∷ c ∷ d ∷ []) = omega arith
digits_least (a ∷ b ∷ c ∷ d ∷ e ∷ rest) = omega (arith, digits_least rest)

pub digits_most : (h : List ℕ) → 5 * length (base32hex h) ≤ 8 * length h + 4
digits_most [] = omega arith
digits_most (a ∷ []) = omega arith
digits_most (a ∷ b ∷ []) = omega arith
digits_most (a ∷ b ∷ c ∷ []) = omega arith
digits_most (a ∷ b ∷ c ∷ d ∷ []) = omega arith
digits_most (a ∷ b ∷ c ∷ d ∷ e ∷ rest) = omega (arith, digits_most rest)

-- a hash that fits a name is short
pub fitting_few : (apex : Name) (h : List ℕ) → FitsName apex h → length h ≤ 39
fitting_few apex h n = omega (arith, digits_least h, n.labels.0.short)

-- base32hex, unpadded and in lower case: eight digits for five octets (RFC 4648, 7; RFC 5155, 3.3).
use Rattle.std.specs.Prelude.{ℕ, ◌+◌, ◌*◌, ◌/◌, ◌%◌, List, [], ◌∷◌, if◌then◌else◌, nat_lt}

-- a digit of 0 to 31: 0 to 9, then a to v
abbrev pub digit : ℕ → ℕ
digit d = if nat_lt d 10 then 48 + d else 87 + d

-- the digits of octets, the highest bits first; a last digit is filled with zero bits
abbrev pub base32hex : List ℕ → List ℕ
base32hex [] = []
base32hex (a ∷ []) = digit (a / 8) ∷ digit (a % 8 * 4) ∷ []
base32hex (a ∷ b ∷ []) = digit (a / 8) ∷ digit (a % 8 * 4 + b / 64) ∷ digit (b / 2 % 32) ∷ digit (b % 2 * 16) ∷ []
base32hex (a ∷ b ∷ c ∷ []) = digit (a / 8) ∷ digit (a % 8 * 4 + b / 64) ∷ digit (b / 2 % 32) ∷ digit (b % 2 * 16 + c / 16) ∷ digit (c % 16 * 2) ∷ []
base32hex (a ∷ b ∷ c ∷ d ∷ []) = digit (a / 8) ∷ digit (a % 8 * 4 + b / 64) ∷ digit (b / 2 % 32) ∷ digit (b % 2 * 16 + c / 16) ∷ digit (c % 16 * 2 + d / 128) ∷ digit (d / 4 % 32) ∷ digit (d % 4 * 8) ∷ []
base32hex (a ∷ b ∷ c ∷ d ∷ e ∷ rest) = digit (a / 8) ∷ digit (a % 8 * 4 + b / 64) ∷ digit (b / 2 % 32) ∷ digit (b % 2 * 16 + c / 16) ∷ digit (c % 16 * 2 + d / 128) ∷ digit (d / 4 % 32) ∷ digit (d % 4 * 8 + e / 32) ∷ digit (e % 32) ∷ base32hex rest

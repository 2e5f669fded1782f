-- The digits of at most five octets (RFC 4648, 7).
use Rattle.std.specs.Prelude.{ℕ, ◌+◌, ◌*◌, ◌/◌, ◌%◌, List, [], ◌∷◌, take, slice_index_or}
use Rattle.definitions.specs.Base32hex.{base32hex, digit}

abbrev pub front_digits : ℕ → ℕ → ℕ → List ℕ
front_digits a b c = digit (a / 8) ∷ digit (a % 8 * 4 + b / 64) ∷ digit (b / 2 % 32) ∷ digit (b % 2 * 16 + c / 16) ∷ []

abbrev pub back_digits : ℕ → ℕ → ℕ → List ℕ
back_digits c d e = digit (c % 16 * 2 + d / 128) ∷ digit (d / 4 % 32) ∷ digit (d % 4 * 8 + e / 32) ∷ digit (e % 32) ∷ []

-- the last three digits of four octets
abbrev pub three_digits : ℕ → ℕ → List ℕ
three_digits c d = digit (c % 16 * 2 + d / 128) ∷ digit (d / 4 % 32) ∷ digit (d % 4 * 8) ∷ []

-- the digits of the first five octets
abbrev pub block_text : List ℕ → List ℕ
block_text octets = base32hex (take 5 octets)

-- fewer than five octets, and zeros behind them
abbrev pub padded : List ℕ → List ℕ
padded octets =
    slice_index_or octets 0 0 ∷ slice_index_or octets 1 0 ∷ slice_index_or octets 2 0 ∷ slice_index_or octets 3 0 ∷ slice_index_or octets 4 0 ∷ []

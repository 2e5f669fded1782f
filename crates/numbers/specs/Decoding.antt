-- Octets of base32hex digits (RFC 4648, 7).
use Rattle.std.specs.Prelude.{◌≡◌, ℕ, ◌+◌, ◌-◌, ◌*◌, ◌/◌, ◌%◌, ◌<◌, Bool, ◌&&◌, ◌||◌, not, List, [], ◌∷◌, ◌++◌, Option, position, slice_index_or, if◌then◌else◌, nat_le}
use Rattle.std.specs.List.{AllByRecursion}
use Rattle.std.specs.Str.{str_to_ascii_lowercase}
use Rattle.definitions.specs.Base32hex.{base32hex}

-- whether a character is a digit: 0 to 9 and a to v
abbrev pub is_digit : ℕ → Bool
is_digit c = (nat_le 48 c && nat_le c 57) || (nat_le 97 c && nat_le c 118)

-- the place of the first character that is no digit
abbrev pub first_no_digit : List ℕ → Option ℕ
first_no_digit digits = position (λ c. not (is_digit c)) digits

-- what a digit stands for
abbrev pub value : ℕ → ℕ
value c = (if nat_le c 57 then c - 48 else c - 87) % 32

-- the first to the fifth octet of a block, each of two or three digits
abbrev pub octet_one : ℕ → ℕ → ℕ
octet_one a b = value a * 8 + value b / 4

abbrev pub octet_two : ℕ → ℕ → ℕ → ℕ
octet_two b c d = value b % 4 * 64 + value c * 2 + value d / 16

abbrev pub octet_three : ℕ → ℕ → ℕ
octet_three d e = value d % 16 * 16 + value e / 2

abbrev pub octet_four : ℕ → ℕ → ℕ → ℕ
octet_four e f g = value e % 2 * 128 + value f * 4 + value g / 8

abbrev pub octet_five : ℕ → ℕ → ℕ
octet_five g h = value g % 8 * 32 + value h

-- the whole octets of digits, block by block
abbrev pub decoded : List ℕ → List ℕ
decoded [] = []
decoded (a ∷ []) = []
decoded (a ∷ b ∷ []) = octet_one a b ∷ []
decoded (a ∷ b ∷ c ∷ []) = octet_one a b ∷ []
decoded (a ∷ b ∷ c ∷ d ∷ []) = octet_one a b ∷ octet_two b c d ∷ []
decoded (a ∷ b ∷ c ∷ d ∷ e ∷ []) = octet_one a b ∷ octet_two b c d ∷ octet_three d e ∷ []
decoded (a ∷ b ∷ c ∷ d ∷ e ∷ f ∷ []) = octet_one a b ∷ octet_two b c d ∷ octet_three d e ∷ []
decoded (a ∷ b ∷ c ∷ d ∷ e ∷ f ∷ g ∷ []) = octet_one a b ∷ octet_two b c d ∷ octet_three d e ∷ octet_four e f g ∷ []
decoded (a ∷ b ∷ c ∷ d ∷ e ∷ f ∷ g ∷ h ∷ rest) = octet_one a b ∷ octet_two b c d ∷ octet_three d e ∷ octet_four e f g ∷ octet_five g h ∷ decoded rest

-- the digits in either case are those of the octets
abbrev pub Spells : List ℕ → List ℕ → Type 0
Spells octets digits = base32hex octets ≡ str_to_ascii_lowercase digits

-- no octets have these digits
abbrev pub SpellsNothing : List ℕ → Type 0
SpellsNothing digits = (octets : List ℕ) → AllByRecursion (λ o. o < 256) octets → Spells octets digits → ⊥

-- the octets of digits stand behind older ones
abbrev pub Appends : List ℕ → List ℕ → List ℕ → Type 0
Appends old new digits = (octets : List ℕ) × ((new ≡ old ++ octets) × Spells octets digits)

-- fewer than eight digits, and zeros behind them
abbrev pub filled : List ℕ → List ℕ
filled digits =
    slice_index_or digits 0 48 ∷ slice_index_or digits 1 48 ∷ slice_index_or digits 2 48 ∷ slice_index_or digits 3 48
    ∷ slice_index_or digits 4 48 ∷ slice_index_or digits 5 48 ∷ slice_index_or digits 6 48 ∷ slice_index_or digits 7 48 ∷ []

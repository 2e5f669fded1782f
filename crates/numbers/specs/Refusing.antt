-- Why text is not base32hex.
use Rattle.std.specs.Prelude.{◌≡◌, ◌⊎◌, ℕ, ◌<◌, ◌%◌, List, length, Some, None}
use Rattle.std.specs.List.{AllByRecursion}
use Rattle.std.specs.Str.{str_to_ascii_lowercase}
use Rattle.definitions.specs.Base32hex.{base32hex}
use Rattle.numbers.specs.Decoding.{first_no_digit}
use Rattle.numbers.specs.declared.base32hex.DecodeError.{DecodeError}
use Rattle.numbers.specs.declared.base32hex.DecodeError.TheVariants.{BadChar, BadLength, TrailingBits, Memory}

-- no octets have this number of digits
abbrev pub IsBadLength : ℕ → Type 0
IsBadLength n = (n % 8 ≡ 1) ⊎ ((n % 8 ≡ 3) ⊎ (n % 8 ≡ 6))

-- A character that is no digit is named first, then a length that no octets have, and then bits behind the last octet.
abbrev pub RefusedDigits : List ℕ → DecodeError → Type 0
RefusedDigits digits (BadChar place) = first_no_digit digits ≡ Some place
RefusedDigits digits BadLength = (first_no_digit digits ≡ None) × IsBadLength (length digits)
RefusedDigits digits TrailingBits =
    (first_no_digit digits ≡ None)
    × ((IsBadLength (length digits) → ⊥) × ((octets : List ℕ) → AllByRecursion (λ o. o < 256) octets → base32hex octets ≡ digits → ⊥))
RefusedDigits digits Memory = Unit {0}

-- the refusal of a text, whose digits may be in either case
abbrev pub RefusedText : List ℕ → DecodeError → Type 0
RefusedText text e = RefusedDigits (str_to_ascii_lowercase text) e

-- Numbers in text.
use Rattle.std.specs.Prelude.{◌≡◌, SomeIff, ℕ, ◌^◌, ◌<◌, List, Option}
use Rattle.std.specs.Str.Parse.{IsNumeral, digits_value}

-- the number that decimal digits write, if it has at most so many bits
abbrev pub ReadsNumber : ℕ → List ℕ → Option ℕ → Type 0
ReadsNumber bits text found =
    SomeIff found (IsNumeral 10 text × (digits_value 10 text < 2 ^ bits)) (digits_value 10 text)

-- decimal digits that write the number, which has at most so many bits
abbrev pub IsDecimal : ℕ → List ℕ → ℕ → Type 0
IsDecimal bits text n = IsNumeral 10 text × (n < 2 ^ bits) × (digits_value 10 text ≡ n)

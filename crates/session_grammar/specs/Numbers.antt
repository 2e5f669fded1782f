-- Numbers as fields of a line.
use Rattle.std.specs.Prelude.{ℕ, ◌^◌, ◌&&◌, Bool, List, length, nat_lt, if◌then◌else◌, Option, Some, None}
use Rattle.std.specs.List.{list_all}
use Rattle.std.specs.Char.{is_ascii_digit}
use Rattle.std.specs.Str.Parse.{digits_value}

-- decimal digits that write a number of so many bits
abbrev pub is_number : ℕ → List ℕ → Bool
is_number bits ds = list_all is_ascii_digit ds && nat_lt 0 (length ds) && nat_lt (digits_value 10 ds) (2 ^ bits)

-- what such a field reads as
abbrev pub number_field : ℕ → List ℕ → Option ℕ
number_field bits ds = if is_number bits ds then Some (digits_value 10 ds) else None

-- Octets and references as fields of a line.
use Rattle.std.specs.Prelude.{ℕ, ◌/◌, ◌==◌, ◌||◌, Bool, not, List, [], length, codes, nat_lt, if◌then◌else◌, Option, Some, None}
use Rattle.std.specs.List.{list_any}
use Rattle.std.specs.Result.{result_ok}
use Rattle.std.specs.Str.{bytes_eq}
use Rattle.hex.specs.Hex.{decode_of as hex_of}
use Rattle.base64.specs.GeneralPurpose.{decode_of as base64_of}
use Rattle.base64.specs.Engines.{standard}

-- the field that stands for nothing
abbrev pub is_nothing : List ℕ → Bool
is_nothing field = bytes_eq field (codes "-")

-- hexadecimal digits of so many octets at most
abbrev pub hex_field : ℕ → List ℕ → Option (List ℕ)
hex_field most field =
    if is_nothing field then Some []
    else if nat_lt 0 (length field) then (if nat_lt most (length field / 2) then None else result_ok (hex_of field))
    else None

-- octets that a DNSKEY record has room for (RFC 4034, 2.1)
abbrev pub fitting : Option (List ℕ) → Option (List ℕ)
fitting (Some octets) = if nat_lt 65531 (length octets) then None else Some octets
fitting None = None

-- octets in base64
abbrev pub base64_field : List ℕ → Option (List ℕ)
base64_field field = result_ok (base64_of standard field)

-- a key's octets
abbrev pub key_field : List ℕ → Option (List ℕ)
key_field field =
    if is_nothing field then Some []
    else if nat_lt 0 (length field) then fitting (base64_field field)
    else None

-- what a key may be called
abbrev pub is_reference : List ℕ → Bool
is_reference field = not (is_nothing field || length field == 0 || list_any (λ c. c == 44) field)

-- A label's octets, and the label that octets begin with (RFC 1035, 4.1.4).
use Rattle.std.specs.Prelude.{ℕ, ◌+◌, ◌-◌, ◌*◌, List, [], ◌∷◌, ◌++◌, length, take, drop, Result, Ok, Err, if◌then◌else◌, nat_le, nat_lt}
use Rattle.std.specs.Str.{str_to_ascii_lowercase}
use Rattle.std.specs.List.{flat_map}
use Rattle.std.specs.Hash.{u8 as one_octet}
use Rattle.names_wire.specs.declared.label.Label.{Label}
use Rattle.names_wire.specs.declared.label.SplitLabelError.{SplitLabelError}
use Rattle.names_wire.specs.declared.label.SplitLabelError.TheVariants.{Pointer, BadType, ShortInput}
use Rattle.names_wire.specs.declared.label.LabelTypeError.TheVariants.{Undefined, Extended}

-- a label's octets
abbrev pub octets_of : Label → List ℕ
octets_of l = l.octets.now

-- a label's octets with ASCII letters lowered
abbrev pub lowered : Label → List ℕ
lowered l = str_to_ascii_lowercase (octets_of l)

-- a label's octets behind their number
abbrev pub wire_label : List ℕ → List ℕ
wire_label l = length l ∷ l

-- the octet behind the first of a pointer
abbrev pub pointer_to : ℕ → List ℕ → SplitLabelError
pointer_to high [] = ShortInput
pointer_to high (low ∷ rest) = Pointer ((high - 192) * 256 + low)

-- why a first octet over 63 is no length
abbrev pub no_length : ℕ → List ℕ → SplitLabelError
no_length b rest = if nat_lt b 128 then BadType (Extended b) else (if nat_lt b 192 then BadType Undefined else pointer_to b rest)

-- the label in front, and what stands behind it
abbrev pub split : List ℕ → Result (List ℕ × List ℕ) SplitLabelError
split [] = Err ShortInput
split (n ∷ rest) = if nat_le n 63 then (if nat_le n (length rest) then Ok (take n rest, drop n rest) else Err ShortInput) else Err (no_length n rest)

-- what a label feeds a hasher, one write an octet: its length, then its octets
abbrev pub label_hash : List ℕ → List (List ℕ)
label_hash l = one_octet (length l) ++ flat_map one_octet l

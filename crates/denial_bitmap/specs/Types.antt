-- The types of a bitmap (RFC 4034, 4.1.2).
use Rattle.std.specs.Prelude.{ℕ, ◌+◌, ◌*◌, ◌-◌, List, [], length, filter, map, Some, None}
use Rattle.std.specs.List.{flat_map}
use Rattle.definitions.specs.Bitmap.{bit_in, windows}
use Rattle.denial_bitmap.specs.Padding.{from}

-- the bits of a window that are set, from a place on, ascending
abbrev pub bits_from : List ℕ → ℕ → List ℕ
bits_from octets place = filter (bit_in octets) (from place (8 * length octets - place))

-- the types of a window, from a bit on
abbrev pub types_from : ℕ → List ℕ → ℕ → List ℕ
types_from number octets place = map (λ k. number * 256 + k) (bits_from octets place)

-- the types of a bitmap, window by window as they stand
abbrev pub types_in : List ℕ → List ℕ
types_in octets = elim (windows octets) [ None ↦ [] | Some ws ↦ flat_map (λ w. types_from w.0 w.1 0) ws ]

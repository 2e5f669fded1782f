-- Bitmaps as the last part of data (RFC 4034, 4.1.2).
use Rattle.std.specs.Prelude.{ℕ, suc, ◌==◌, ◌||◌, List, [], ◌∷◌, length, drop, Ok, Err, slice_range, nat_lt, if◌then◌else◌}
use Rattle.definitions.specs.Bitmap.{is_bitmap}
use Rattle.definitions.specs.Reading.{ReadFault, Short, Malformed}
use Rattle.names_rdata.specs.Reading.{Part}
use Rattle.denial_bitmap.specs.Texts.{types_text}
use Rattle.denial_bitmap.specs.Types.{types_in}

-- Why octets are no bitmap of at most a number of windows: a window ends too soon, or has no octets or more than 32.
abbrev pub fault_upto : ℕ → List ℕ → ReadFault
fault_upto (suc n) (w ∷ len ∷ rest) = if (len == 0) || nat_lt 32 len then Malformed else (if nat_lt (length rest) len then Short else fault_upto n (drop len rest))
fault_upto n octets = Short

abbrev pub bitmap_fault : List ℕ → ReadFault
bitmap_fault octets = fault_upto (length octets) octets

-- all that is left, where that is a bitmap
abbrev pub bitmap_part : Part
bitmap_part m p e = let octets = slice_range m p e in if is_bitmap octets then Ok (octets, e) else Err (bitmap_fault octets)

-- types behind a blank, if there are any
abbrev pub field_of : List ℕ → List ℕ
field_of [] = []
field_of (t ∷ ts) = 32 ∷ types_text (t ∷ ts)

abbrev pub types_field : List ℕ → List ℕ
types_field octets = field_of (types_in octets)

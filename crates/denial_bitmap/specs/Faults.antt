-- Why octets are no bitmap (RFC 4034, 4.1.2).
use Rattle.std.specs.Prelude.{◌≡◌, ℕ, ◌<◌, ◌≤◌, List, [], ◌∷◌, ◌++◌, length, Some, codes}
use Rattle.names_parser.specs.Errors.{form_text}
use Rattle.names_parser.specs.declared.error.ParseError.{ParseError}
use Rattle.names_parser.specs.declared.error.ParseError.TheVariants as parse
use Rattle.denial_bitmap.specs.declared.error.RtypeBitmapError.{RtypeBitmapError}
use Rattle.denial_bitmap.specs.declared.error.RtypeBitmapError.TheVariants.{BadRtypeBitmap, ShortInput}

-- Octets break off at their first window that is none: its number or its octets are not all there, or their number is 0 or
-- more than 32.
pub data BreaksOff : List ℕ → RtypeBitmapError → Type 0 where
  alone : {w : ℕ} → BreaksOff (w ∷ []) ShortInput
  empty : {w : ℕ} {rest : List ℕ} → BreaksOff (w ∷ 0 ∷ rest) BadRtypeBitmap
  long : {w len : ℕ} {rest : List ℕ} → 32 < len → BreaksOff (w ∷ len ∷ rest) BadRtypeBitmap
  short : {w len : ℕ} {rest : List ℕ} → 0 < len → len ≤ 32 → length rest < len → BreaksOff (w ∷ len ∷ rest) ShortInput
  behind : {w : ℕ} {rest all : List ℕ} {e : RtypeBitmapError} (octets : List ℕ) → 0 < length octets → length octets ≤ 32 → all ≡ w ∷ length octets ∷ (octets ++ rest) → BreaksOff rest e → BreaksOff all e

-- the error of a bitmap as a fault of reading
abbrev pub as_parse_error : RtypeBitmapError → ParseError → Type 0
as_parse_error BadRtypeBitmap p = form_text p ≡ Some (codes "invalid type bitmap")
as_parse_error ShortInput p = p ≡ parse.ShortInput

-- Serial numbers of 32 bits, which go round (RFC 1982).
use Rattle.std.specs.Prelude.{ℕ, ◌+◌, ◌%◌, ◌^◌, Bool, true, false, Option, Some, None}
use Rattle.std.specs.declared.cmp.Ordering.{Ordering}
use Rattle.std.specs.declared.cmp.Ordering.TheVariants.{Less, Equal, Greater}
use Rattle.names_wire.specs.Serial.{serial_le}

-- the order of two numbers of which each is or isn't at or before the other; half a circle apart, neither is
abbrev pub order_by : Bool → Bool → Option Ordering
order_by true true = Some Equal
order_by true false = Some Less
order_by false true = Some Greater
order_by false false = None

-- the order of two serial numbers (RFC 1982, 3.2)
abbrev pub serial_cmp : ℕ → ℕ → Option Ordering
serial_cmp a b = order_by (serial_le a b) (serial_le b a)

-- the sum of a serial number and another number (RFC 1982, 3.1)
abbrev pub serial_add : ℕ → ℕ → ℕ
serial_add a n = (a + n) % 2 ^ 32

-- Serial numbers of 32 bits, which go round (RFC 1982; RFC 4034, 3.1.5).
use Rattle.std.specs.Prelude.{ℕ, ◌+◌, ◌-◌, ◌%◌, Bool, nat_lt}

-- a is b, or lies less than half the circle before b
abbrev pub serial_le : ℕ → ℕ → Bool
serial_le a b = nat_lt ((b + 4294967296 - a) % 4294967296) 2147483648

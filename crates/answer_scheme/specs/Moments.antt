-- Moments as signatures carry them.
use Rattle.std.specs.Prelude.{ℕ, ◌/◌, ◌%◌}

-- the whole seconds of a moment in nanoseconds, modulo 2^32 (RFC 4034, 3.1.5)
abbrev pub second_of : ℕ → ℕ
second_of at = at / 1000000000 % 4294967296

-- Limits on what is read.
use Rattle.std.specs.Prelude.{ℕ}

-- how many pointers may be followed in a name of a message (RFC 1035, 4.1.4)
unfoldable pub pointer_limit : ℕ
pointer_limit = 255

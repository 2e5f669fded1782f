-- Data as they are written.
use Rattle.std.specs.Prelude.{ℕ, List, ◌++◌, length}
use Rattle.std.specs.Int.{w16, to_be_bytes}

-- data behind their length (RFC 1035, 3.2.1)
abbrev pub with_length : List ℕ → List ℕ
with_length octets = to_be_bytes w16 (length octets) ++ octets

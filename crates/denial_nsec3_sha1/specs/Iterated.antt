-- The hash of a name (RFC 5155, 5).
use Rattle.std.specs.Prelude.{ℕ, zero, suc, ◌==◌, List, ◌++◌, Option, Some, None, if◌then◌else◌}
use Rattle.sha1.specs.Sha1.{sha1}

-- the digest of octets and a salt, hashed again with the salt a number of times
abbrev pub iterated : ℕ → List ℕ → List ℕ → List ℕ
iterated zero octets salt = sha1 (octets ++ salt)
iterated (suc n) octets salt = sha1 (iterated n octets salt ++ salt)

-- what the hasher answers: a hash for algorithm 1 alone (RFC 5155, 11)
abbrev pub answered : List ℕ → ℕ → ℕ → List ℕ → Option (List ℕ)
answered name algorithm iterations salt = if algorithm == 1 then Some (iterated iterations name salt) else None

-- Owners that spell a hash in base32hex.
use Rattle.std.specs.Prelude.{ℕ, Bool, false, ◌&&◌, List, [], ◌∷◌}
use Rattle.std.specs.Str.{bytes_eq, str_to_ascii_lowercase}
use Rattle.definitions.specs.Base32hex.{base32hex}
use Rattle.definitions.specs.Name.{Name, same}
use Rattle.numbers.specs.Decoding.{decoded}

-- the octets that a label spells in base32hex, in either case
abbrev pub label_octets : List ℕ → List ℕ
label_octets l = decoded (str_to_ascii_lowercase l)

abbrev pub is_base32hex : List ℕ → Bool
is_base32hex l = bytes_eq (base32hex (label_octets l)) (str_to_ascii_lowercase l)

-- an owner that spells a hash: one label of base32hex under the apex (RFC 5155, 3)
abbrev pub spells_hash : Name → Name → Bool
spells_hash apex [] = false
spells_hash apex (l ∷ o) = same o apex && is_base32hex l

abbrev pub hash_spelled : Name → List ℕ
hash_spelled [] = []
hash_spelled (l ∷ o) = label_octets l

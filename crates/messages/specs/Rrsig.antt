-- An RRSIG record's data as written (RFC 4034, 3.1).
use Rattle.std.specs.Prelude.{ℕ, List, ◌∷◌, ◌++◌, length}
use Rattle.std.specs.Int.{w16, w32, to_be_bytes}
use Rattle.definitions.specs.Name.{Name, wire}
use Rattle.definitions.specs.Signing.{Fields}

-- what is signed and how
abbrev pub covered_octets : Fields → List ℕ
covered_octets f = to_be_bytes w16 f.covered ++ f.algorithm ∷ f.labels ∷ to_be_bytes w32 f.ttl

-- when the signature ends and begins
abbrev pub times_octets : Fields → List ℕ
times_octets f = to_be_bytes w32 f.expiration ++ to_be_bytes w32 f.inception

-- the fields before the signer
abbrev pub fields_numbers : Fields → List ℕ
fields_numbers f = covered_octets f ++ times_octets f ++ to_be_bytes w16 f.tag

-- the fields, the signer as spelled
abbrev pub spelled_fields : Fields → List ℕ
spelled_fields f = fields_numbers f ++ wire f.signer

-- the fields, the signer as spelled, and the signature
abbrev pub rrsig_data : Fields → List ℕ → List ℕ
rrsig_data f signature = spelled_fields f ++ signature

-- the numbers between a record's owner and its data
unfoldable pub record_numbers : ℕ → ℕ → ℕ → ℕ → List ℕ
record_numbers t class ttl len = to_be_bytes w16 t ++ (to_be_bytes w16 class ++ (to_be_bytes w32 ttl ++ to_be_bytes w16 len))

-- a record in canonical form before the length of its data (RFC 4034, 6.2)
abbrev pub record_head : Name → ℕ → ℕ → ℕ → List ℕ
record_head owner t class ttl = wire owner ++ to_be_bytes w16 t ++ to_be_bytes w16 class ++ to_be_bytes w32 ttl

-- the length of data and the data
abbrev pub with_length : List ℕ → List ℕ
with_length d = to_be_bytes w16 (length d) ++ d

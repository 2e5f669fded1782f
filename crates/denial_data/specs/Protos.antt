-- The data of a signature without the signature (RFC 4034, 3.1).
use Rattle.std.specs.Prelude.{◌≡◌, ℕ, List, [], ◌∷◌, ◌++◌}
use Rattle.std.specs.Int.{w16, w32, to_be_bytes}
use Rattle.definitions.specs.Name.{Name, wire, low}
use Rattle.definitions.specs.Signing.{Fields, fields_data}
use Rattle.denial_data.specs.declared.proto_rrsig.Numbers.{Numbers}
use Rattle.denial_data.specs.declared.proto_rrsig.ProtoRrsig.{ProtoRrsig}

abbrev pub numbers_with : ℕ → ℕ → ℕ → ℕ → ℕ → ℕ → ℕ → Numbers
numbers_with covered algorithm labels ttl expiration inception tag =
    record { type_covered = covered; algorithm = algorithm; labels = labels; original_ttl = ttl; expiration = expiration; inception = inception; key_tag = tag }

-- the octets before the signer: a word, since they are many
unfoldable pub numbers_octets : Numbers → List ℕ
numbers_octets n =
    to_be_bytes w16 n.type_covered ++ (n.algorithm ∷ n.labels ∷ [] ++ (to_be_bytes w32 n.original_ttl ++ (to_be_bytes w32 n.expiration ++ (to_be_bytes w32 n.inception ++ to_be_bytes w16 n.key_tag))))

-- the fields of a signature, with the signer's name
abbrev pub fields_of : {N : Type 0} → (N → Name) → ProtoRrsig N → Fields
fields_of name p =
    record { covered = p.numbers.type_covered; algorithm = p.numbers.algorithm; labels = p.numbers.labels; ttl = p.numbers.original_ttl; expiration = p.numbers.expiration; inception = p.numbers.inception; tag = p.numbers.key_tag; signer = name p.signer_name }

-- the octets of RRSIG data without the signature, the signer as it is spelled
abbrev pub proto_octets : {N : Type 0} → (N → Name) → ProtoRrsig N → List ℕ
proto_octets name p = numbers_octets p.numbers ++ wire (name p.signer_name)

-- the octets of RRSIG data without the signature, the signer in lower case (RFC 4034, 6.2)
abbrev pub proto_canonical : {N : Type 0} → (N → Name) → ProtoRrsig N → List ℕ
proto_canonical name p = numbers_octets p.numbers ++ wire (low (name p.signer_name))

-- the octets in lower case are those that a signature is made over, before the records (RFC 4034, 3.1.8.1)
abbrev pub IsSignedOver : Type 0
IsSignedOver = (p : ProtoRrsig Name) → proto_canonical (λ n. n) p ≡ fields_data (fields_of (λ n. n) p)

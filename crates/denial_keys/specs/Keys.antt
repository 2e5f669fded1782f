-- Data of keys and of digests of keys (RFC 4034, 2 and 5).
use Rattle.std.specs.Prelude.{ℕ, List, [], ◌∷◌, ◌++◌}
use Rattle.std.specs.Int.{w16, to_be_bytes}
use Rattle.std.specs.Fmt.{decimal}
use Rattle.definitions.specs.Dnskey.{Dnskey, Ds}
use Rattle.names_rdata.specs.Unknown.{hex_field}
use Rattle.denial_fields.specs.Fields.{base64_field}

-- the key of these fields
abbrev pub dnskey_with : ℕ → ℕ → ℕ → List ℕ → Dnskey
dnskey_with flags protocol algorithm octets = record { flags = flags; protocol = protocol; algorithm = algorithm; octets = octets }

abbrev pub ds_with : ℕ → ℕ → ℕ → List ℕ → Ds
ds_with tag algorithm digest_type digest = record { tag = tag; algorithm = algorithm; digest_type = digest_type; digest = digest }

-- the octets before the key
abbrev pub dnskey_head : Dnskey → List ℕ
dnskey_head k = to_be_bytes w16 k.flags ++ k.protocol ∷ k.algorithm ∷ []

-- the text of DNSKEY data: three numbers, and the key
abbrev pub dnskey_text : Dnskey → List ℕ
dnskey_text k = decimal k.flags ++ 32 ∷ decimal k.protocol ++ 32 ∷ decimal k.algorithm ++ base64_field k.octets

-- the octets before the digest
abbrev pub ds_head : Ds → List ℕ
ds_head d = to_be_bytes w16 d.tag ++ d.algorithm ∷ d.digest_type ∷ []

-- a DS record's data (RFC 4034, 5.1)
abbrev pub ds_data : Ds → List ℕ
ds_data d = to_be_bytes w16 d.tag ++ d.algorithm ∷ d.digest_type ∷ d.digest

-- the text of DS data: three numbers, and the digest
abbrev pub ds_text : Ds → List ℕ
ds_text d = decimal d.tag ++ 32 ∷ decimal d.algorithm ++ 32 ∷ decimal d.digest_type ++ hex_field d.digest

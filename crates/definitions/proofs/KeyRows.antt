-- Key tags, by computing.
use Rattle.std.proofs.Common.{◌≡◌, ℕ, List, [], ◌∷◌, refl}
use Rattle.std.specs.Prelude.{Some, None}
use Rattle.definitions.specs.Dnskey.{Dnskey, key_tag, dnskey_data, dnskey_of_data}

abbrev key : ℕ → ℕ → List ℕ → Dnskey
key flags algorithm octets = record { flags = flags; protocol = 3; algorithm = algorithm; octets = octets }

empty_key : key_tag (key 256 8 []) ≡ 1032
empty_key = refl

entry_point : key_tag (key 257 13 (0 ∷ 16 ∷ [])) ∷ key_tag (key 257 13 (0 ∷ 18 ∷ [])) ∷ [] ≡ 1054 ∷ 1056 ∷ []
entry_point = refl

zone_keys : key_tag (key 256 13 (0 ∷ 1 ∷ 0 ∷ 0 ∷ [])) ∷ key_tag (key 256 13 (0 ∷ 5 ∷ 0 ∷ 0 ∷ [])) ∷ key_tag (key 256 13 (0 ∷ 0 ∷ 0 ∷ 1 ∷ [])) ∷ [] ≡ 1038 ∷ 1042 ∷ 1038 ∷ []
zone_keys = refl

-- a last single octet is the upper half
odd_length : key_tag (key 256 13 (1 ∷ [])) ≡ 1293
odd_length = refl

-- the third- and second-to-last octets of the key; 0 for a shorter one (RFC 4034, appendix B.1)
algorithm_one : key_tag (key 256 1 (9 ∷ 1 ∷ 2 ∷ 3 ∷ [])) ∷ key_tag (key 256 1 (1 ∷ 2 ∷ [])) ∷ [] ≡ 258 ∷ 0 ∷ []
algorithm_one = refl

data_read_back : dnskey_of_data (dnskey_data (key 257 13 (0 ∷ 16 ∷ []))) ≡ Some (key 257 13 (0 ∷ 16 ∷ []))
data_read_back = refl

three_octets_are_no_key : dnskey_of_data (1 ∷ 1 ∷ 3 ∷ []) ≡ None
three_octets_are_no_key = refl

-- A scheme, keys and zones over `example`, and how messages are spelled.
use Rattle.std.specs.Prelude.{ℕ, List, [], ◌∷◌, ◌++◌, length, Some, codes, true, false}
use Rattle.std.specs.Int.{w16, w32, to_be_bytes}
use Rattle.std.specs.Str.{bytes_eq}
use Rattle.definitions.specs.Name.{Name, wire}
use Rattle.definitions.specs.Dnskey.{Dnskey, Ds, key_tag}
use Rattle.definitions.specs.Signing.{Fields, fields_data, signed_octets}
use Rattle.messages.specs.HandedRr.{HandedRr}
use Rattle.answer_scheme.specs.Answers.{Answers}

abbrev pub example : Name
example = codes "example" ∷ []

abbrev pub a : Name
a = codes "a" ∷ example

abbrev pub b : Name
b = codes "b" ∷ example

abbrev pub c : Name
c = codes "c" ∷ example

abbrev pub x_b : Name
x_b = codes "x" ∷ b

abbrev pub x : Name
x = codes "x" ∷ example

abbrev pub star : Name
star = codes "*" ∷ example

-- A signature is the octets of the key and what it is made over, a digest how many octets there are, and all names have one
-- hash.
abbrev pub plain : Answers
plain = record {
  verifies = λ key octets signature. bytes_eq signature (key.octets ++ octets);
  digest = λ t octets. Some (length octets ∷ []);
  hash = λ name algorithm iterations salt. Some (5 ∷ []);
}

-- ---- keys of algorithm 13

abbrev pub key : ℕ → List ℕ → Dnskey
key flags octets = record { flags = flags; protocol = 3; algorithm = 13; octets = octets }

-- the zone's key, its tag 1054
abbrev pub own_key : Dnskey
own_key = key 257 (0 ∷ 16 ∷ [])

-- a stranger's key of the same tag
abbrev pub stranger : Dnskey
stranger = key 257 (0 ∷ 0 ∷ 0 ∷ 16 ∷ [])

-- a stranger's key of the same tag and digest
abbrev pub twin : Dnskey
twin = key 256 (0 ∷ 17 ∷ [])

-- a stranger's key of another tag
abbrev pub other : Dnskey
other = key 256 (0 ∷ 32 ∷ 0 ∷ [])

-- a key of the zone that is no zone key
abbrev pub idle : Dnskey
idle = key 0 (0 ∷ 48 ∷ [])

-- the DS record of the zone's key: the name has 9 octets in wire form, the data of its key 6
abbrev pub ds : Ds
ds = record { tag = 1054; algorithm = 13; digest_type = 2; digest = 15 ∷ [] }

-- ---- records

abbrev pub handed : Name → ℕ → List ℕ → HandedRr
handed owner t octets = record { owner = owner; class = 1; ttl = 3600; rtype = t; is_unknown = true; written = octets; bytes = octets }

-- the SOA record's server and keeper are the root, its serial number is 1, and its other numbers 0
abbrev pub soa_data : List ℕ
soa_data = 0 ∷ 0 ∷ 0 ∷ 0 ∷ 0 ∷ 1 ∷ 0 ∷ 0 ∷ 0 ∷ 0 ∷ 0 ∷ 0 ∷ 0 ∷ 0 ∷ 0 ∷ 0 ∷ 0 ∷ 0 ∷ 0 ∷ 0 ∷ 0 ∷ 0 ∷ []

abbrev pub soa : HandedRr
soa = record (handed example 6 soa_data) { is_unknown = false }

abbrev pub address : List ℕ
address = 192 ∷ 0 ∷ 2 ∷ 1 ∷ []

abbrev pub address_of : Name → HandedRr
address_of owner = handed owner 1 address

-- an alias, and one for all names below its owner
abbrev pub alias_of : Name → Name → HandedRr
alias_of owner target = handed owner 5 (wire target)

abbrev pub redirect_of : Name → Name → HandedRr
redirect_of owner target = handed owner 39 (wire target)

-- a delegation
abbrev pub delegation_of : Name → Name → HandedRr
delegation_of owner server = record (handed owner 2 (wire server)) { is_unknown = false }

-- a text of one letter
abbrev pub text : List ℕ
text = 1 ∷ 120 ∷ []

abbrev pub text_of : Name → HandedRr
text_of owner = handed owner 16 text

-- an address that the zone does not have
abbrev pub false_address : List ℕ
false_address = 192 ∷ 0 ∷ 2 ∷ 99 ∷ []

-- ---- messages

-- a record of a name and a type in a message, TTL 3600
abbrev pub rr : Name → ℕ → List ℕ → List ℕ
rr owner t d = wire owner ++ to_be_bytes w16 t ++ to_be_bytes w16 1 ++ to_be_bytes w32 3600 ++ to_be_bytes w16 (length d) ++ d

-- what a signature says: the type that it covers, its label count, the TTL, first and last second, and its key
abbrev pub fields : ℕ → ℕ → ℕ → ℕ → ℕ → Dnskey → Fields
fields t labels ttl inception expiration k = record {
  covered = t;
  algorithm = 13;
  labels = labels;
  ttl = ttl;
  expiration = expiration;
  inception = inception;
  tag = key_tag k;
  signer = example;
}

-- a signature by a key over an owner's data, as it stands under a name
abbrev pub rrsig : Name → Fields → Dnskey → Name → List (List ℕ) → List ℕ
rrsig under f k owner datas = rr under 46 (fields_data f ++ (k.octets ++ signed_octets f owner 1 datas))

-- a message of a question and so many records
abbrev pub message_of : Name → ℕ → ℕ → List ℕ → List ℕ
message_of name t count records =
    0 ∷ 0 ∷ 132 ∷ 0 ∷ 0 ∷ 1 ∷ 0 ∷ count ∷ 0 ∷ 0 ∷ 0 ∷ 0 ∷ (wire name ++ to_be_bytes w16 t ++ to_be_bytes w16 1 ++ records)

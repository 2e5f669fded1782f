-- Messages as they are written (RFC 1035, 4.1): one question, no compression.
use Rattle.std.specs.Prelude.{ℕ, List, ◌++◌, length}
use Rattle.std.specs.List.{flat_map}
use Rattle.std.specs.Int.{w16, to_be_bytes}
use Rattle.definitions.specs.Name.{Name, wire}
use Rattle.definitions.specs.Signing.{canonical_record}
use Rattle.messages.specs.Message.{Asked}

-- a record to be written, with its data
pub record Written : Type 0 where
  pub owner : Name
  pub rtype : ℕ
  pub class : ℕ
  pub ttl : ℕ
  pub octets : List ℕ

abbrev pub written : Name → ℕ → ℕ → ℕ → List ℕ → Written
written owner t class ttl octets = record { owner = owner; rtype = t; class = class; ttl = ttl; octets = octets }

-- id 0, the flags, one question, and the records of the answer and authority sections; no additional ones (RFC 1035, 4.1.1)
unfoldable pub header_octets : ℕ → ℕ → ℕ → List ℕ
header_octets flags answers authority =
    to_be_bytes w16 0 ++ to_be_bytes w16 flags ++ to_be_bytes w16 1 ++ to_be_bytes w16 answers ++ to_be_bytes w16 authority ++ to_be_bytes w16 0

-- the octets of a question (RFC 1035, 4.1.2)
unfoldable pub question_octets : Name → ℕ → ℕ → List ℕ
question_octets name t class = wire name ++ to_be_bytes w16 t ++ to_be_bytes w16 class

-- owner, type, class, TTL, and the data behind their length (RFC 1035, 4.1.3)
unfoldable pub record_octets : Written → List ℕ
record_octets r = canonical_record r.owner r.rtype r.class r.ttl r.octets

-- a whole message
abbrev pub message_octets : ℕ → Asked → List Written → List Written → List ℕ
message_octets flags asked answers authority =
    header_octets flags (length answers) (length authority) ++ question_octets asked.name asked.rtype asked.class ++ flat_map record_octets answers
    ++ flat_map record_octets authority

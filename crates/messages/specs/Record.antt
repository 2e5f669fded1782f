-- The readings of records and of their data, as contracts see them.
use Rattle.std.specs.Prelude.{ℕ, List}
use Rattle.definitions.specs.Name.{Name}
use Rattle.definitions.specs.Signing.{Fields, lowered_signer}
use Rattle.names_parser.specs.Reader.{Reader}
use Rattle.messages.specs.Message.{HashedNext, Spelled, behind}
use Rattle.messages.specs.declared.view.ViewRecord.{ViewRecord}
use Rattle.names_parsed.specs.Parsed.{parsed_name}
use Rattle.names_parsed.specs.declared.parsed.ParsedName.{ParsedName}
use Rattle.denial_data.specs.Protos as protos
use Rattle.denial_data.specs.RrsigData.{RrsigData}
use Rattle.denial_data.specs.Hashed.{Nsec3Data}
use Rattle.denial_data.specs.NsecData.{NsecData}

abbrev pub spelled : ViewRecord → Spelled
spelled r = record { owner = r.owner; rtype = r.rtype; class = r.class; ttl = r.ttl; start = r.start; length = r.length }

-- a reader of a record's data
abbrev pub reader_of : List ℕ → Spelled → Reader
reader_of m r = record { octets = m; place = r.start; end = behind r }

-- a signature in a message
abbrev pub Signature : Type 0
Signature = RrsigData ParsedName

-- the fields of a signature in a message, the signer as spelled
abbrev pub fields_read : Signature → Fields
fields_read s = protos.fields_of parsed_name s.proto

-- the fields of a signature in a message, the signer in canonical form
abbrev pub fields_of : Signature → Fields
fields_of s = lowered_signer (fields_read s)

-- the fields of a signature in a message, and its octets
abbrev pub signature_of : Signature → Fields × List ℕ
signature_of s = (fields_of s, s.signature)

-- a link in a message, its next name as spelled
abbrev pub link_of : NsecData ParsedName → Name × List ℕ
link_of l = (parsed_name l.next_name, l.types)

-- a link of hashes
abbrev pub hashed_link_of : Nsec3Data → HashedNext
hashed_link_of l = record {
  algorithm = l.params.algorithm;
  flags = l.params.flags;
  iterations = l.params.iterations;
  salt = l.params.salt;
  next = l.next_owner;
  bits = l.types;
}

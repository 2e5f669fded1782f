-- The data of RRSIG records, without where they lie (RFC 4034, 3.1).
use Rattle.std.specs.Prelude.{ℕ, ◌+◌, List, ◌++◌, length}
use Rattle.definitions.specs.Name.{Name, wire, low}
use Rattle.denial_data.specs.declared.proto_rrsig.ProtoRrsig.{ProtoRrsig}
use Rattle.denial_data.specs.Protos.{numbers_octets}

pub record RrsigData (N : Type 0) : Type 0 where
  pub proto : ProtoRrsig N
  pub signature : List ℕ

abbrev pub rrsig_with : {N : Type 0} → ProtoRrsig N → List ℕ → RrsigData N
rrsig_with proto signature = record { proto = proto; signature = signature }

-- the octets of RRSIG data, the signer as it is spelled
abbrev pub rrsig_octets : {N : Type 0} → (N → Name) → RrsigData N → List ℕ
rrsig_octets name d = numbers_octets d.proto.numbers ++ (wire (name d.proto.signer_name) ++ d.signature)

-- the octets of RRSIG data, the signer in lower case (RFC 4034, 6.2)
abbrev pub rrsig_canonical : {N : Type 0} → (N → Name) → RrsigData N → List ℕ
rrsig_canonical name d = numbers_octets d.proto.numbers ++ (wire (low (name d.proto.signer_name)) ++ d.signature)

-- how many octets RRSIG data have
abbrev pub rrsig_len : {N : Type 0} → (N → Name) → N → List ℕ → ℕ
rrsig_len name signer signature = 18 + length (wire (name signer)) + length signature

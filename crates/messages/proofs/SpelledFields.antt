-- The octets of a signature's fields, as they are written and as they are defined.
use Rattle.std.proofs.Common.{◌≡◌, refl}
use Rattle.definitions.specs.Name.{Name}
use Rattle.definitions.specs.Signing.{fields_data}
use Rattle.denial_data.specs.declared.proto_rrsig.ProtoRrsig.{ProtoRrsig}
use Rattle.denial_data.specs.Protos.{fields_of, numbers_octets, proto_octets, proto_canonical}
use Rattle.messages.specs.Rrsig.{spelled_fields}

-- the signer as spelled
pub fields_spelled : {N : Type 0} (name : N → Name) (p : ProtoRrsig N) → proto_octets name p ≡ spelled_fields (fields_of name p)
unfolding numbers_octets
fields_spelled name p = refl

-- and in canonical form
pub fields_signed : {N : Type 0} (name : N → Name) (p : ProtoRrsig N) → proto_canonical name p ≡ fields_data (fields_of name p)
unfolding numbers_octets
fields_signed name p = refl

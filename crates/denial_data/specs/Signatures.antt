-- RRSIG data, read in a message and as text (RFC 4034, 3.1 and 3.2).
use Rattle.std.specs.Prelude.{ℕ, List, ◌∷◌, ◌++◌, Option, Some, None}
use Rattle.names_rdata.specs.Reading.{Part, octets_part, name_part, rest_part, two_parts, limited}
use Rattle.denial_fields.specs.Fields.{base64_field}
use Rattle.denial_nsec_data.specs.Nsec.{named_text}
use Rattle.denial_data.specs.NumbersText.{numbers_text}
use Rattle.denial_data.specs.RrsigData.{RrsigData}

abbrev pub signer_part : Part
signer_part = two_parts name_part rest_part

abbrev pub rrsig_part : Part
rrsig_part = limited (two_parts (octets_part 18) signer_part)

-- text before a name's, a blank between
abbrev pub before_name : List ℕ → Option (List ℕ) → Option (List ℕ)
before_name text (Some name) = Some (text ++ 32 ∷ name)
before_name text None = None

abbrev pub rrsig_text : {N : Type 0} → (N → Option (List ℕ)) → RrsigData N → Option (List ℕ)
rrsig_text text d = named_text (before_name (numbers_text d.proto.numbers) (text d.proto.signer_name)) (base64_field d.signature)

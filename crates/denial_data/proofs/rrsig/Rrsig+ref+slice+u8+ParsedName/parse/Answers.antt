use Rattle.names_parsed.specs.Parsed.{parsed_name}
use Rattle.names_rdata.specs.Reading.{name_part, octets_part, rest_part, two_parts}
use Rattle.denial_fields.proofs.Ending.{whole_read, two_end, limited_ends, rest_ends}
use Rattle.denial_data.specs.RrsigData.{rrsig_octets}
use Rattle.denial_data.specs.Signatures.{rrsig_part, signer_part}
use Rattle.denial_data.proofs.rrsig.Rrsig+ref+slice+u8+ParsedName.parse.Goals as goal

pub returns-in-Ok : goal.returns-in-Ok
returns-in-Ok c =
    whole_read rrsig_part (rrsig_octets parsed_name) c.args.parser.now c.parse_fields.new.parser c.in-Ok.rrsig (limited_ends (two_parts (octets_part 18) signer_part) (two_end (octets_part 18) signer_part (two_end name_part rest_part rest_ends))) c.in-Ok.ensures

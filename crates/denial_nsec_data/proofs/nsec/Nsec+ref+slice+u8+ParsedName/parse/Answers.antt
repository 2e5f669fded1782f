use Rattle.names_parsed.specs.Parsed.{parsed_name}
use Rattle.names_rdata.specs.Reading.{name_part, two_parts}
use Rattle.denial_fields.proofs.Ending.{whole_read, two_end, limited_ends}
use Rattle.denial_nsec_data.specs.Bitmaps.{bitmap_part}
use Rattle.denial_nsec_data.specs.Nsec.{nsec_part}
use Rattle.denial_nsec_data.specs.NsecData.{nsec_octets}
use Rattle.denial_nsec_data.proofs.Faults.{bitmap_ends}
use Rattle.denial_nsec_data.proofs.nsec.Nsec+ref+slice+u8+ParsedName.parse.Goals as goal

pub returns-in-Ok : goal.returns-in-Ok
returns-in-Ok c =
    whole_read nsec_part (nsec_octets parsed_name) c.args.parser.now c.parse_fields.new.parser c.in-Ok.nsec (limited_ends (two_parts name_part bitmap_part) (two_end name_part bitmap_part bitmap_ends)) c.in-Ok.ensures

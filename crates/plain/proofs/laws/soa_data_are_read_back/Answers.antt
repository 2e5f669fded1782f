use Rattle.std.proofs.Common.{◌++◌}
use Rattle.definitions.specs.Name.{wire}
use Rattle.names_rdata.specs.Reading.{name_part, octets_part, two_parts}
use Rattle.names_rdata.proofs.WrittenParts.{written_name, written_octets, written_two, written_data}
use Rattle.plain.specs.Soa.{soa_part}
use Rattle.plain.proofs.laws.soa_data_are_read_back.Goals as goal

pub returns : goal.returns
returns c = λ m r times hm hr h.
    written_data soa_part (wire m ++ (wire r ++ times))
    (written_two name_part (two_parts name_part (octets_part 20)) (wire m) (wire r ++ times) (written_name m hm)
    (written_two name_part (octets_part 20) (wire r) times (written_name r hr) (written_octets 20 times h)))

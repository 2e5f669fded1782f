use Rattle.definitions.specs.Name.{wire}
use Rattle.names_rdata.specs.Reading.{name_part}
use Rattle.names_rdata.proofs.WrittenParts.{written_name, written_data}
use Rattle.plain.proofs.laws.ns_data_are_read_back.Goals as goal

pub returns : goal.returns
returns c = λ n h. written_data name_part (wire n) (written_name n h)

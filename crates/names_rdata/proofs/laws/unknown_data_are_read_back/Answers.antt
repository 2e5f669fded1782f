use Rattle.names_rdata.proofs.WrittenParts.{written_rest}
use Rattle.names_rdata.proofs.laws.unknown_data_are_read_back.Goals as goal

pub returns : goal.returns
returns c = written_rest

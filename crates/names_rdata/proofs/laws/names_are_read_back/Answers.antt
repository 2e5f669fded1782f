use Rattle.names_rdata.proofs.WrittenNames.{written_names}
use Rattle.names_rdata.proofs.laws.names_are_read_back.Goals as goal

pub returns : goal.returns
returns c = written_names

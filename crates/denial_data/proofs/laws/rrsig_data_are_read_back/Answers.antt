use Rattle.denial_data.proofs.WrittenData.{written_rrsig}
use Rattle.denial_data.proofs.laws.rrsig_data_are_read_back.Goals as goal

pub returns : goal.returns
returns c = written_rrsig

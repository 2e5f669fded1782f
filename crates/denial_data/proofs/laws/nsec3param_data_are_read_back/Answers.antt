use Rattle.denial_data.proofs.WrittenData.{written_nsec3param}
use Rattle.denial_data.proofs.laws.nsec3param_data_are_read_back.Goals as goal

pub returns : goal.returns
returns c = written_nsec3param

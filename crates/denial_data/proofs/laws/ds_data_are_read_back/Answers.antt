use Rattle.denial_data.proofs.WrittenData.{written_ds}
use Rattle.denial_data.proofs.laws.ds_data_are_read_back.Goals as goal

pub returns : goal.returns
returns c = written_ds

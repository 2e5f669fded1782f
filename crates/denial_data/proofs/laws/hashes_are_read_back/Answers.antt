use Rattle.denial_data.proofs.HashText.{hashes_back}
use Rattle.denial_data.proofs.laws.hashes_are_read_back.Goals as goal

pub returns : goal.returns
returns c = hashes_back

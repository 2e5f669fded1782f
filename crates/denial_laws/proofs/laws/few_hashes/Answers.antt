use Rattle.denial_laws.proofs.FewHashes.{few_hashes}
use Rattle.denial_laws.proofs.laws.few_hashes.Goals as goal

pub returns : goal.returns
returns c = few_hashes

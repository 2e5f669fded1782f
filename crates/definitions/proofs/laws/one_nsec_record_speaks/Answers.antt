use Rattle.definitions.proofs.OwnChains.{one_nsec_record_speaks}
use Rattle.definitions.proofs.laws.one_nsec_record_speaks.Goals as goal

pub returns : goal.returns
returns c = one_nsec_record_speaks

use Rattle.keyset_laws.proofs.Waiting as waiting
use Rattle.keyset_laws.proofs.laws.waits_are_timed.Goals as goal

pub returns : goal.returns
returns c = waiting.waits_are_timed

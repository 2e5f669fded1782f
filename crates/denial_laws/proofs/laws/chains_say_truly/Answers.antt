use Rattle.denial_laws.proofs.ChainSays.{chains_say_truly}
use Rattle.denial_laws.proofs.laws.chains_say_truly.Goals as goal

pub returns : goal.returns
returns c = chains_say_truly

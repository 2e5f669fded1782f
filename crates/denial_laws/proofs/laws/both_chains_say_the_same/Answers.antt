use Rattle.denial_laws.proofs.Complete.{both_chains_say_the_same}
use Rattle.denial_laws.proofs.laws.both_chains_say_the_same.Goals as goal

pub returns : goal.returns
returns c = both_chains_say_the_same

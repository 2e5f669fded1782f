use Rattle.counterexamples_honest.proofs.Mixtures.{mixture}
use Rattle.counterexamples_honest.proofs.laws.versions_do_not_mix.Goals as goal

pub returns : goal.returns
returns c = mixture

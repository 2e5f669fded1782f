use Rattle.counterexamples_honest.proofs.Mixtures.{at_once_row}
use Rattle.counterexamples_honest.proofs.laws.one_moment_has_one_version.Goals as goal

pub returns : goal.returns
returns c = at_once_row

use Rattle.counterexamples_denial.proofs.NsecMistakes.{nothing_misses}
use Rattle.counterexamples_denial.proofs.laws.something_must_be_said.Goals as goal

pub returns : goal.returns
returns c = nothing_misses

use Rattle.counterexamples_honest.proofs.Premises.{all_honest, none_false}
use Rattle.counterexamples_honest.proofs.laws.all_premises_are_honesty.Goals as goal

pub returns-clause-same : goal.returns-clause-same
returns-clause-same c = all_honest

pub returns-clause-truly : goal.returns-clause-truly
returns-clause-truly c = none_false

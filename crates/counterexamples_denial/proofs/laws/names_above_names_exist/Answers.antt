use Rattle.counterexamples_denial.proofs.NsecMistakes.{non_terminals_falsely}
use Rattle.counterexamples_denial.proofs.laws.names_above_names_exist.Goals as goal

pub returns : goal.returns
returns c = non_terminals_falsely

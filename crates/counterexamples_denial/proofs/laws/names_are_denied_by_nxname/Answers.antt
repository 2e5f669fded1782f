use Rattle.counterexamples_denial.proofs.DeniedMistakes.{denied_names_falsely}
use Rattle.counterexamples_denial.proofs.laws.names_are_denied_by_nxname.Goals as goal

pub returns : goal.returns
returns c = denied_names_falsely

use Rattle.counterexamples_denial.proofs.Nsec3Mistakes.{opt_out_falsely}
use Rattle.counterexamples_denial.proofs.laws.opt_out_proves_nothing.Goals as goal

pub returns : goal.returns
returns c = opt_out_falsely

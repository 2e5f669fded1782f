use Rattle.counterexamples_denial.proofs.MadeUpMistakes.{made_up_enclosers_falsely}
use Rattle.counterexamples_denial.proofs.laws.a_made_up_owner_is_no_encloser.Goals as goal

pub returns : goal.returns
returns c = made_up_enclosers_falsely

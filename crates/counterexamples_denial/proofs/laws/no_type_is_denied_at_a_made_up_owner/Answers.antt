use Rattle.counterexamples_denial.proofs.MadeUpMistakes.{made_up_names_falsely}
use Rattle.counterexamples_denial.proofs.laws.no_type_is_denied_at_a_made_up_owner.Goals as goal

pub returns : goal.returns
returns c = made_up_names_falsely

use Rattle.counterexamples_honest.proofs.MadeUpRow.{made_up_row}
use Rattle.counterexamples_honest.proofs.laws.a_record_between_names_that_are_made_up_is_honest.Goals as goal

pub returns : goal.returns
returns c = made_up_row

use Rattle.counterexamples_honest.proofs.MadeRows.{denied_row}
use Rattle.counterexamples_honest.proofs.laws.a_denial_that_is_made_is_honest.Goals as goal

pub returns : goal.returns
returns c = denied_row

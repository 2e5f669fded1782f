use Rattle.counterexamples_honest.proofs.MadeRows.{lied_falsely}
use Rattle.counterexamples_honest.proofs.laws.denials_that_are_made_must_be_true.Goals as goal

pub returns : goal.returns
returns c = lied_falsely

use Rattle.counterexamples_honest.proofs.DisorderRows.{hand_row}
use Rattle.counterexamples_honest.proofs.laws.no_record_may_be_of_a_type_that_signing_adds.Goals as goal

pub returns : goal.returns
returns c = hand_row

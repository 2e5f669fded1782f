use Rattle.counterexamples_honest.proofs.MadeRows.{named_row}
use Rattle.counterexamples_honest.proofs.laws.no_record_may_be_of_a_type_that_is_no_data.Goals as goal

pub returns : goal.returns
returns c = named_row

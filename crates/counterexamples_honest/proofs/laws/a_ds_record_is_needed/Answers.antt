use Rattle.counterexamples_honest.proofs.FalseRows.{no_ds_row}
use Rattle.counterexamples_honest.proofs.laws.a_ds_record_is_needed.Goals as goal

pub returns : goal.returns
returns c = no_ds_row

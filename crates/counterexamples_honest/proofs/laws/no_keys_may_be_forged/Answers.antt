use Rattle.counterexamples_honest.proofs.FalseRows.{forged_keys_row}
use Rattle.counterexamples_honest.proofs.laws.no_keys_may_be_forged.Goals as goal

pub returns : goal.returns
returns c = forged_keys_row

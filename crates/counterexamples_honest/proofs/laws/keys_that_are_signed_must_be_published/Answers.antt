use Rattle.counterexamples_honest.proofs.FalseRows.{signed_keys_row}
use Rattle.counterexamples_honest.proofs.laws.keys_that_are_signed_must_be_published.Goals as goal

pub returns : goal.returns
returns c = signed_keys_row

use Rattle.counterexamples_honest.proofs.HonestRows.{spliced_row}
use Rattle.counterexamples_honest.proofs.laws.splices_are_honest.Goals as goal

pub returns : goal.returns
returns c = spliced_row

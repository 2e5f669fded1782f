use Rattle.counterexamples_honest.proofs.HonestRows.{late_row}
use Rattle.counterexamples_honest.proofs.laws.what_is_forged_late_is_honest.Goals as goal

pub returns : goal.returns
returns c = late_row

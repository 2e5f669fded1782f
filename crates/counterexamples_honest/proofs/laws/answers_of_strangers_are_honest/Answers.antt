use Rattle.counterexamples_honest.proofs.HonestRows.{strangers_row}
use Rattle.counterexamples_honest.proofs.laws.answers_of_strangers_are_honest.Goals as goal

pub returns : goal.returns
returns c = strangers_row

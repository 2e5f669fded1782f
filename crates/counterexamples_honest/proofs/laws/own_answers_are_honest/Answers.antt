use Rattle.counterexamples_honest.proofs.HonestRows.{own_row}
use Rattle.counterexamples_honest.proofs.laws.own_answers_are_honest.Goals as goal

pub returns : goal.returns
returns c = own_row

use Rattle.counterexamples_honest.proofs.FalseRows.{forged_answer_row}
use Rattle.counterexamples_honest.proofs.laws.no_answer_may_be_forged.Goals as goal

pub returns : goal.returns
returns c = forged_answer_row

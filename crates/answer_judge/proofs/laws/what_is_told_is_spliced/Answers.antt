use Rattle.answer_judge.proofs.Spliced.{told_is_spliced}
use Rattle.answer_judge.proofs.laws.what_is_told_is_spliced.Goals as goal

pub returns : goal.returns
returns c = told_is_spliced

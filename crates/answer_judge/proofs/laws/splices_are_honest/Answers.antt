use Rattle.answer_judge.proofs.Spliced.{splices_are_honest}
use Rattle.answer_judge.proofs.laws.splices_are_honest.Goals as goal

pub returns : goal.returns
returns c = splices_are_honest

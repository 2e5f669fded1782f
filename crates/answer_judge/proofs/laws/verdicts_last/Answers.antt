use Rattle.answer_judge.proofs.StayAlike.{verdicts_last}
use Rattle.answer_judge.proofs.laws.verdicts_last.Goals as goal

pub returns : goal.returns
returns c = verdicts_last

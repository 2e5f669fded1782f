use Rattle.answer_judge.proofs.Timely.{refuses_untimely}
use Rattle.answer_judge.proofs.laws.untimely_is_refused.Goals as goal

pub returns : goal.returns
returns c = refuses_untimely

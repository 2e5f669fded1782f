use Rattle.answer_judge.proofs.ForgedAtAll.{at_all_is_enough}
use Rattle.answer_judge.proofs.laws.nothing_forged_at_all_is_enough.Goals as goal

pub returns : goal.returns
returns c = at_all_is_enough

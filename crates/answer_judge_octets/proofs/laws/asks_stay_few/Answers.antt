use Rattle.answer_judge_octets.proofs.Carried.{asks_stay_few}
use Rattle.answer_judge_octets.proofs.laws.asks_stay_few.Goals as goal

pub returns : goal.returns
returns c = asks_stay_few

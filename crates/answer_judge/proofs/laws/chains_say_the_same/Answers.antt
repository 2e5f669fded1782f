use Rattle.answer_judge.proofs.BothChains.{chains_say_the_same}
use Rattle.answer_judge.proofs.laws.chains_say_the_same.Goals as goal

pub returns : goal.returns
returns c = chains_say_the_same

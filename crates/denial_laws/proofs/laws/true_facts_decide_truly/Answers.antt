use Rattle.denial_laws.proofs.Sound.{true_facts_decide_truly}
use Rattle.denial_laws.proofs.laws.true_facts_decide_truly.Goals as goal

pub returns : goal.returns
returns c = true_facts_decide_truly

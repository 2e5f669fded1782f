use Rattle.denial_laws.proofs.Complete.{own_answers_decide}
use Rattle.denial_laws.proofs.laws.own_answers_decide.Goals as goal

pub returns : goal.returns
returns c = own_answers_decide

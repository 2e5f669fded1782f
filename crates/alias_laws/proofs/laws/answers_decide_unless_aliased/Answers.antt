use Rattle.alias_laws.proofs.Orderly.{answers_decide}
use Rattle.alias_laws.proofs.laws.answers_decide_unless_aliased.Goals as goal

pub returns : goal.returns
returns c = answers_decide

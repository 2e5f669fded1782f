use Rattle.alias_laws.proofs.Aliases.{answers_decide_found}
use Rattle.alias_laws.proofs.laws.found_answers_decide.Goals as goal

pub returns : goal.returns
returns c = answers_decide_found

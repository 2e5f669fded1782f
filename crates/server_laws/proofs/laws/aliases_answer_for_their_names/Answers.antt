use Rattle.server_laws.proofs.Aliased.{aliases_answered, allowed_aliased}
use Rattle.server_laws.proofs.laws.aliases_answer_for_their_names.Goals as goal

pub returns-clause-exactly : goal.returns-clause-exactly
returns-clause-exactly c = allowed_aliased

pub returns-clause-answered : goal.returns-clause-answered
returns-clause-answered c = aliases_answered

use Rattle.answer_terms.proofs.Servable.{accepted_unaliased}
use Rattle.answer_terms.proofs.laws.accepted_zones_have_no_alias.Goals as goal

pub returns : goal.returns
returns c = accepted_unaliased

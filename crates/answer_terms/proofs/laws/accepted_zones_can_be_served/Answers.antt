use Rattle.answer_terms.proofs.Servable.{servable}
use Rattle.answer_terms.proofs.laws.accepted_zones_can_be_served.Goals as goal

pub returns : goal.returns
returns c = servable

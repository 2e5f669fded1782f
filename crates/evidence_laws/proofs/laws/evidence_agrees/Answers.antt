use Rattle.evidence_laws.proofs.Staying.{evidence_agrees}
use Rattle.evidence_laws.proofs.laws.evidence_agrees.Goals as goal

pub returns : goal.returns
returns c = evidence_agrees c.trees_resolve_to_one.ensures

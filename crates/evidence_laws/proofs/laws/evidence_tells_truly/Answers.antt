use Rattle.evidence_laws.proofs.Truly.{evidence_tells_truly}
use Rattle.evidence_laws.proofs.laws.evidence_tells_truly.Goals as goal

pub returns : goal.returns
returns c = evidence_tells_truly

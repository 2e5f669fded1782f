use Rattle.evidence_laws.proofs.Staying.{evidence_stays_proved}
use Rattle.evidence_laws.proofs.laws.evidence_stays_proved.Goals as goal

pub returns : goal.returns
returns c = evidence_stays_proved

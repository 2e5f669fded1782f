use Rattle.resolution_walk.proofs.Staying.{walks_stay_proved}
use Rattle.resolution_walk.proofs.laws.walks_stay_proved.Goals as goal

pub returns : goal.returns
returns c = walks_stay_proved c.evidence_stays_proved.ensures

use Rattle.resolution_walk.proofs.Staying.{walks_agree}
use Rattle.resolution_walk.proofs.laws.walks_agree.Goals as goal

pub returns : goal.returns
returns c = walks_agree c.evidence_agrees.ensures

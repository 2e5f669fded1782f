use Rattle.resolution_walk.proofs.Bounded.{walks_want_few}
use Rattle.resolution_walk.proofs.laws.walks_want_few.Goals as goal

pub returns : goal.returns
returns c = walks_want_few

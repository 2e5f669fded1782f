use Rattle.walk_laws.proofs.New.{nothing_is_wanted_twice}
use Rattle.walk_laws.proofs.laws.nothing_is_wanted_twice.Goals as goal

pub returns : goal.returns
returns c = nothing_is_wanted_twice

use Rattle.walk_laws.proofs.Loops.{loops_are_short}
use Rattle.walk_laws.proofs.laws.loops_are_short.Goals as goal

pub returns : goal.returns
returns c = loops_are_short

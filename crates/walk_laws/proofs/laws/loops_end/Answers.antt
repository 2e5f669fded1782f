use Rattle.walk_laws.proofs.Loops.{loops_end}
use Rattle.walk_laws.proofs.laws.loops_end.Goals as goal

pub returns : goal.returns
returns c = loops_end

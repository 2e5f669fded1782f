use Rattle.std.proofs.Common.{length}
use Rattle.denial_laws.proofs.reference.hashed.+by_closest_encloser.Given as goal

abbrev pub decreases-by_closest_encloser : goal.decreases-by_closest_encloser
decreases-by_closest_encloser g l = length l.name.now

use Rattle.std.proofs.Common.{length}
use Rattle.denial_laws.proofs.reference.linked.+expanded.Given as goal

abbrev pub decreases-expanded : goal.decreases-expanded
decreases-expanded l = length l.links.now

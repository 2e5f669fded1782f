use Rattle.std.proofs.Common.{length}
use Rattle.denial_laws.proofs.reference.linked.+first_covered.Given as goal

abbrev pub decreases-first_covered : goal.decreases-first_covered
decreases-first_covered l = length l.links.now

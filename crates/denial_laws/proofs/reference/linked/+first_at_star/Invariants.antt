use Rattle.std.proofs.Common.{length}
use Rattle.denial_laws.proofs.reference.linked.+first_at_star.Given as goal

abbrev pub decreases-first_at_star : goal.decreases-first_at_star
decreases-first_at_star l = length l.links.now

use Rattle.std.proofs.Common.{length}
use Rattle.denial_laws.proofs.reference.hashed.+first_star_at.Given as goal

abbrev pub decreases-first_star_at : goal.decreases-first_star_at
decreases-first_star_at l = length l.links.now

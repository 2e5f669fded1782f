use Rattle.std.proofs.Common.{length}
use Rattle.denial_laws.proofs.reference.hashed.+first_expanding.Given as goal

abbrev pub decreases-first_expanding : goal.decreases-first_expanding
decreases-first_expanding l = length l.links.now

use Rattle.std.proofs.Common.{length}
use Rattle.denial_laws.proofs.reference.hashed.+first_cut_above.Given as goal

abbrev pub decreases-first_cut_above : goal.decreases-first_cut_above
decreases-first_cut_above l = length l.links.now

use Rattle.std.proofs.Common.{length}
use Rattle.denial_laws.proofs.reference.linked.+first_below_cut.Given as goal

abbrev pub decreases-first_below_cut : goal.decreases-first_below_cut
decreases-first_below_cut l = length l.links.now

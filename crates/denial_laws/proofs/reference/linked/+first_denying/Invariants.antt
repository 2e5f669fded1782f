use Rattle.std.proofs.Common.{length}
use Rattle.denial_laws.proofs.reference.linked.+first_denying.Given as goal

abbrev pub decreases-first_denying : goal.decreases-first_denying
decreases-first_denying l = length l.links.now

use Rattle.std.proofs.Common.{length}
use Rattle.denial_laws.proofs.reference.linked.+first_at_owner.Given as goal

abbrev pub decreases-first_at_owner : goal.decreases-first_at_owner
decreases-first_at_owner l = length l.links.now

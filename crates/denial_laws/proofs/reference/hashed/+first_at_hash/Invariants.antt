use Rattle.std.proofs.Common.{length}
use Rattle.denial_laws.proofs.reference.hashed.+first_at_hash.Given as goal

abbrev pub decreases-first_at_hash : goal.decreases-first_at_hash
decreases-first_at_hash l = length l.links.now

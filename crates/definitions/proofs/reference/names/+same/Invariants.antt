use Rattle.std.proofs.Common.{length}
use Rattle.definitions.proofs.reference.names.+same.Given as goal

abbrev pub decreases-same : goal.decreases-same
decreases-same l = length l.a.now

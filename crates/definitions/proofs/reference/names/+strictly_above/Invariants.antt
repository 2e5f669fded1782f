use Rattle.std.proofs.Common.{length}
use Rattle.definitions.proofs.reference.names.+strictly_above.Given as goal

abbrev pub decreases-strictly_above : goal.decreases-strictly_above
decreases-strictly_above l = length l.other.now

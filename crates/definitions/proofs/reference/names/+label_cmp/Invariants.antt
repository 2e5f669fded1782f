use Rattle.std.proofs.Common.{length}
use Rattle.definitions.proofs.reference.names.+label_cmp.Given as goal

abbrev pub decreases-label_cmp : goal.decreases-label_cmp
decreases-label_cmp l = length l.a.now

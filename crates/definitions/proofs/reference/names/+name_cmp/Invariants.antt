use Rattle.std.proofs.Common.{length}
use Rattle.definitions.proofs.reference.names.+name_cmp.Given as goal

abbrev pub decreases-name_cmp : goal.decreases-name_cmp
decreases-name_cmp l = length l.a.now

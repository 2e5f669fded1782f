use Rattle.std.proofs.Common.{length}
use Rattle.names_labels.proofs.Checks.{HasRead}
use Rattle.names_labels.proofs.check.check_absolute.Given as goal

abbrev pub invariant-loop-label : goal.invariant-loop-label
invariant-loop-label l = HasRead l.octets l.rest

abbrev pub decreases-loop-label : goal.decreases-loop-label
decreases-loop-label l = length l.rest

use Rattle.std.proofs.Common.{length}
use Rattle.names_labels.specs.Walked.{HasWalked, BeginsBefore}
use Rattle.names_labels.proofs.order.walk_to.Given as goal

abbrev pub invariant-loop-rest : goal.invariant-loop-rest
invariant-loop-rest l = record { walked : HasWalked l.fn.run l.rest l.label; begins : BeginsBefore l.tail l.rest l.label }

abbrev pub decreases-loop-rest : goal.decreases-loop-rest
decreases-loop-rest l = length l.rest

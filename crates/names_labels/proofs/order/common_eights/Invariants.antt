use Rattle.std.proofs.Common.{◌-◌}
use Rattle.names_labels.specs.Order.{SameEnds}
use Rattle.names_labels.proofs.order.common_eights.Given as goal

abbrev pub invariant-loop-count : goal.invariant-loop-count
invariant-loop-count l = SameEnds l.octets l.others l.count

abbrev pub decreases-loop-count : goal.decreases-loop-count
decreases-loop-count l = l.most - l.count

use Rattle.std.proofs.Common.{◌≡◌, ◌≤◌, length}
use Rattle.names_wire.specs.Slices.{labels_along}
use Rattle.names_wire.proofs.labels.follow.Given as goal

abbrev pub decreases-loop-left : goal.decreases-loop-left
decreases-loop-left l = l.left

abbrev pub invariant-loop-left : goal.invariant-loop-left
invariant-loop-left l = (l.place ≤ length l.octets) × (labels_along l.left l.octets l.place ≡ labels_along l.pointers l.octets l.fn.place)

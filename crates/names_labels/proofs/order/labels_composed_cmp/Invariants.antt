use Rattle.std.proofs.Common.{◌≡◌}
use Rattle.names_labels.proofs.Orders.{composed}
use Rattle.names_labels.proofs.order.labels_composed_cmp.Given as goal

abbrev pub invariant-loop-a : goal.invariant-loop-a
invariant-loop-a g l = composed l.case (g.A.Labels.labels l.name) (g.B.Labels.labels l.other) ≡ composed l.case l.left l.right

use Rattle.std.proofs.Common.{◌≡◌, length}
use Rattle.std.specs.Ordering.{nat_cmp, ordering_then}
use Rattle.names_wire.specs.Name.{name_cmp}
use Rattle.names_labels.proofs.order.labels_cmp.Given as goal

abbrev pub invariant-loop-a : goal.invariant-loop-a
invariant-loop-a g l =
    let a = g.A.Labels.labels l.name in
    let b = g.B.Labels.labels l.other in
    record {
      tied : name_cmp a b ≡ ordering_then (ordering_then (name_cmp l.left l.right) l.order) (nat_cmp (length a) (length b));
      even : length l.left ≡ length l.right;
      count : l.count ≡ length a;
      other : l.other_count ≡ length b;
    }

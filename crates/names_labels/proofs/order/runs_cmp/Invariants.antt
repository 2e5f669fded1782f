use Rattle.std.proofs.Common.{◌+◌, ◌≤◌, length}
use Rattle.names_labels.proofs.Tails.{WalkBoth}
use Rattle.names_labels.proofs.order.runs_cmp.Given as goal

abbrev pub invariant-loop-left : goal.invariant-loop-left
invariant-loop-left l = record {
  walk : WalkBoth l.fn.run l.fn.other l.left l.right l.label l.other_label l.tail;
  left : length l.left ≤ l.tail;
  right : length l.right ≤ l.tail;
}

abbrev pub decreases-loop-left : goal.decreases-loop-left
decreases-loop-left l = length l.left + length l.right

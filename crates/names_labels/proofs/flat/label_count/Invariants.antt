use Rattle.std.proofs.Common.{◌≡◌, length, ◌+◌}
use Rattle.names_labels.specs.Flat.{labels_in, IsRun}
use Rattle.names_labels.proofs.flat.label_count.Given as goal

abbrev pub invariant-loop-behind : goal.invariant-loop-behind
invariant-loop-behind l = record { rest : IsRun l.rest; count : l.count + length (labels_in l.rest) ≡ length (labels_in l.run) }

abbrev pub decreases-loop-behind : goal.decreases-loop-behind
decreases-loop-behind l = length (labels_in l.rest)

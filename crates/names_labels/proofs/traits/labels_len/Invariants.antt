use Rattle.std.proofs.Common.{◌≡◌, ◌≤◌, ◌+◌, length}
use Rattle.names_labels.specs.Flat.{spelled}
use Rattle.names_labels.proofs.traits.labels_len.Given as goal

abbrev pub invariant-loop-label : goal.invariant-loop-label
invariant-loop-label g l =
    let ls = g.N.Labels.labels l.name in
    record { len : l.len + length (spelled l.labels) ≡ length (spelled ls); short : length (spelled ls) ≤ 255 }

abbrev pub decreases-loop-label : goal.decreases-loop-label
decreases-loop-label g l = length l.labels

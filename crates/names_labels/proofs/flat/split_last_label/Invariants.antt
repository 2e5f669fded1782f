use Rattle.std.proofs.Common.{ℕ, length}
use Rattle.names_wire.specs.Label.{octets_of}
use Rattle.names_labels.specs.Flat.{labels_in}
use Rattle.names_labels.proofs.Cuts.{ReachesLast}
use Rattle.names_labels.proofs.flat.split_last_label.Given as goal

abbrev pub invariant-loop-label : goal.invariant-loop-label
invariant-loop-label l = (k : ℕ) × ReachesLast l.run l.rest l.start k (octets_of l.last)

abbrev pub decreases-loop-label : goal.decreases-loop-label
decreases-loop-label l = length (labels_in l.rest)

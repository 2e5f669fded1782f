use Rattle.std.proofs.Common.{ℕ, length}
use Rattle.names_labels.specs.Flat.{labels_in}
use Rattle.names_labels.proofs.Cuts.{Seeks}
use Rattle.names_labels.proofs.flat.is_label_start.Given as goal

abbrev pub invariant-loop-rest : goal.invariant-loop-rest
invariant-loop-rest l = (k : ℕ) × Seeks l.run l.rest l.place k

abbrev pub decreases-loop-rest : goal.decreases-loop-rest
decreases-loop-rest l = length (labels_in l.rest)

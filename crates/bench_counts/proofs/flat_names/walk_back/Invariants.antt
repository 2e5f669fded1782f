use Rattle.std.proofs.Common.{length}
use Rattle.bench_counts.proofs.flat_names.walk_back.Given as goal

abbrev pub decreases-loop-label : goal.decreases-loop-label
decreases-loop-label l = length l.labels

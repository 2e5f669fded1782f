use Rattle.std.proofs.Common.{◌≡◌, ◌+◌, ◌≤◌, length}
use Rattle.denial_nsec3_names.specs.Differing.{differing}
use Rattle.denial_nsec3_names.proofs.Spans.{spans}
use Rattle.denial_nsec3_names.proofs.labels.differing_labels.Given as goal

abbrev pub invariant-loop-label : goal.invariant-loop-label
invariant-loop-label g l = record {
  total : spans l.place l.last (differing l.labels l.others) ≡ differing l.fn.labels l.fn.others;
  labels : l.place + length l.labels ≡ l.count;
  others : l.place + length l.others ≡ l.count;
  last : l.last ≤ l.place;
}

abbrev pub decreases-loop-label : goal.decreases-loop-label
decreases-loop-label g l = length l.labels

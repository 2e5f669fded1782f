use Rattle.std.proofs.Common.{◌≡◌, ◌-◌, ◌<◌, length, Some}
use Rattle.std.specs.List.{slice_get}
use Rattle.denial_rrsets.specs.Slices.{items_of}
use Rattle.denial_rrsets.proofs.Grouped.{AlikeTo}
use Rattle.denial_rrsets.proofs.runs.split_group.Given as goal

abbrev pub invariant-loop-item : goal.invariant-loop-item
invariant-loop-item g l = record {
  inside : l.place < length (items_of l.slice);
  last : slice_get (items_of l.slice) l.place ≡ Some l.last;
  alike : AlikeTo g.K.Alike.alike l.place (items_of l.slice);
}

abbrev pub decreases-loop-item : goal.decreases-loop-item
decreases-loop-item g l = length (items_of l.slice) - l.place

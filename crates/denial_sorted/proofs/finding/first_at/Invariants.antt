use Rattle.std.proofs.Common.{◌≡◌, length}
use Rattle.denial_rrsets.specs.Groups.{found_set, groups, is_at, of_one_set}
use Rattle.denial_rrsets.specs.Slices.{items_of}
use Rattle.denial_sorted.proofs.finding.first_at.Given as goal

abbrev pub invariant-loop-group : goal.invariant-loop-group
invariant-loop-group g l =
    found_set g.D.RecordData.type_of (is_at g.N.Labels.name g.D.RecordData.type_of (g.N.Labels.name l.owner) l.rtype) (groups (of_one_set g.N.Labels.name g.D.RecordData.type_of) (items_of l.rest))
    ≡ found_set g.D.RecordData.type_of (is_at g.N.Labels.name g.D.RecordData.type_of (g.N.Labels.name l.owner) l.rtype) (groups (of_one_set g.N.Labels.name g.D.RecordData.type_of) (items_of l.fn.slice))

abbrev pub decreases-loop-group : goal.decreases-loop-group
decreases-loop-group g l = length (groups (of_one_set g.N.Labels.name g.D.RecordData.type_of) (items_of l.rest))

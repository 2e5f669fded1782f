use Rattle.std.proofs.Common.{◌≡◌, length}
use Rattle.denial_rrsets.specs.Ends.{AreEnds}
use Rattle.denial_rrsets.specs.Groups.{found_set, groups, is_of_type, of_one_set}
use Rattle.denial_rrsets.specs.Slices.{items_of}
use Rattle.denial_sorted.proofs.finding.first_soa.Given as goal

abbrev pub invariant-loop-parts : goal.invariant-loop-parts
invariant-loop-parts g l = record {
  found : found_set g.D.RecordData.type_of (is_of_type g.D.RecordData.type_of 6) (groups (of_one_set g.N.Labels.name g.D.RecordData.type_of) (items_of l.rest))
      ≡ found_set g.D.RecordData.type_of (is_of_type g.D.RecordData.type_of 6) (groups (of_one_set g.N.Labels.name g.D.RecordData.type_of) (items_of l.fn.slice));
  ends : AreEnds g.N.Labels.name l.left (items_of l.rest);
}

abbrev pub decreases-loop-parts : goal.decreases-loop-parts
decreases-loop-parts g l = length (groups (of_one_set g.N.Labels.name g.D.RecordData.type_of) (items_of l.rest))

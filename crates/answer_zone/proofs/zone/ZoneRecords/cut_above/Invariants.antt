use Rattle.std.proofs.Common.{◌≡◌, length}
use Rattle.std.specs.Prelude.{IfSome}
use Rattle.definitions.specs.Name.{low}
use Rattle.definitions.specs.Zone.{cut_above}
use Rattle.answer_terms.specs.Accepting.{zone_with}
use Rattle.answer_zone.specs.Placed.{IsCutRecords}
use Rattle.answer_zone.proofs.Placing.{AreLeft, found, left_cut}
use Rattle.answer_zone.proofs.zone.ZoneRecords.cut_above.Given as goal

abbrev pub invariant-loop-ancestor : goal.invariant-loop-ancestor
invariant-loop-ancestor g l = record {
  sought : cut_above (zone_with l.self.apex l.self.records) (low l.name) ≡ left_cut (zone_with l.self.apex l.self.records) (found l.topmost) l.ancestors;
  left : AreLeft l.name l.ancestors;
  records : IfSome l.topmost (IsCutRecords l.self.records);
}

abbrev pub decreases-loop-ancestor : goal.decreases-loop-ancestor
decreases-loop-ancestor g l = length l.ancestors

use Rattle.std.proofs.Common.{◌≡◌, length}
use Rattle.answer_terms.specs.Accepting.{zone_with}
use Rattle.answer_zone.specs.Finding.{redirecting}
use Rattle.answer_zone.proofs.Redirecting.{redirecting_among}
use Rattle.answer_zone.proofs.zone.ZoneRecords.redirecting.Given as goal

abbrev pub invariant-loop-ancestor : goal.invariant-loop-ancestor
invariant-loop-ancestor g l = redirecting (zone_with l.self.apex l.self.records) l.name ≡ redirecting_among (zone_with l.self.apex l.self.records) l.ancestors

abbrev pub decreases-loop-ancestor : goal.decreases-loop-ancestor
decreases-loop-ancestor g l = length l.ancestors

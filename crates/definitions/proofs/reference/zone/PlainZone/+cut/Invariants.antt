use Rattle.std.proofs.Common.{length}
use Rattle.definitions.proofs.reference.zone.PlainZone.+cut.Given as goal

abbrev pub decreases-cut : goal.decreases-cut
decreases-cut l = length l.name.now

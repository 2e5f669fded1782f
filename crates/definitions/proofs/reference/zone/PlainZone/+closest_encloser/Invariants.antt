use Rattle.std.proofs.Common.{length}
use Rattle.definitions.proofs.reference.zone.PlainZone.+closest_encloser.Given as goal

abbrev pub decreases-closest_encloser : goal.decreases-closest_encloser
decreases-closest_encloser l = length l.name.now

use Rattle.std.proofs.Common.{length}
use Rattle.definitions.proofs.reference.bitmap.+bitmap_has.Given as goal

abbrev pub decreases-bitmap_has : goal.decreases-bitmap_has
decreases-bitmap_has l = length l.octets.now

use Rattle.std.proofs.Common.{length}
use Rattle.definitions.proofs.reference.bitmap.+is_bitmap.Given as goal

abbrev pub decreases-is_bitmap : goal.decreases-is_bitmap
decreases-is_bitmap l = length l.octets.now

use Rattle.std.proofs.Common.{◌≡◌, true, length}
use Rattle.definitions.specs.Bitmap.{is_bitmap, bitmap_has}
use Rattle.denial_bitmap.proofs.bitmap.contains.Given as goal

abbrev pub invariant-loop-window : goal.invariant-loop-window
invariant-loop-window l = record {
  same : bitmap_has l.octets l.rtype ≡ bitmap_has l.rest l.rtype;
  bitmap : is_bitmap l.rest ≡ true;
}

abbrev pub decreases-loop-window : goal.decreases-loop-window
decreases-loop-window l = length l.rest

use Rattle.std.proofs.Common.{◌≡◌, ◌≤◌, ◌++◌, true, length}
use Rattle.definitions.specs.Bitmap.{is_bitmap}
use Rattle.denial_bitmap.specs.Types.{types_from, types_in}
use Rattle.denial_bitmap.proofs.iter.RtypeBitmapIterIterator.next.Given as goal

abbrev pub invariant-loop-bit : goal.invariant-loop-bit
invariant-loop-bit l = record {
  left : types_from l.self-inside.window.number l.self-inside.window.octets.now l.self-inside.bit ++ types_in l.self-inside.rest.now ≡ l.fn.self;
  few : length l.self-inside.window.octets.now ≤ 32;
  bitmap : is_bitmap l.self-inside.rest.now ≡ true;
}

abbrev pub decreases-loop-bit : goal.decreases-loop-bit
decreases-loop-bit l = length l.self-inside.rest.now

use Rattle.std.proofs.Common.{◌≡◌, length}
use Rattle.definitions.specs.Bitmap.{is_bitmap}
use Rattle.denial_bitmap.specs.Faults.{BreaksOff}
use Rattle.denial_bitmap.specs.declared.error.RtypeBitmapError.{RtypeBitmapError}
use Rattle.denial_bitmap.proofs.bitmap.check.Given as goal

abbrev pub invariant-loop-rest : goal.invariant-loop-rest
invariant-loop-rest l = record {
  same : is_bitmap l.octets ≡ is_bitmap l.rest;
  fault : (e : RtypeBitmapError) → BreaksOff l.rest e → BreaksOff l.octets e;
}

abbrev pub decreases-loop-rest : goal.decreases-loop-rest
decreases-loop-rest l = length l.rest

use Rattle.std.proofs.Common.{◌≡◌, ℕ, List, length}
use Rattle.definitions.specs.Bitmap.{bitmap}
use Rattle.denial_bitmap.specs.Building.{windows_before}
use Rattle.denial_bitmap.proofs.builder.place_of.Given as goal

abbrev pub invariant-loop-lower : goal.invariant-loop-lower
invariant-loop-lower l = (ts : List ℕ) → l.octets ≡ bitmap ts → l.place ≡ length (windows_before ts l.lower)

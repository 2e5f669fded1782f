use Rattle.std.proofs.Common.{◌≡◌}
use Rattle.std.specs.List.{flat_map}
use Rattle.definitions.specs.Bitmap.{below, window}
use Rattle.definitions.proofs.reference.bitmap.windows_below.Given as goal

abbrev pub invariant-loop-number : goal.invariant-loop-number
invariant-loop-number l = l.octets.items ≡ flat_map (window l.types) (below l.number)

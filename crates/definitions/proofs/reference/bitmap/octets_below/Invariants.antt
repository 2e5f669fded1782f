use Rattle.std.proofs.Common.{◌≡◌, map}
use Rattle.definitions.specs.Bitmap.{below, octet_of}
use Rattle.definitions.proofs.reference.bitmap.octets_below.Given as goal

abbrev pub invariant-loop-place : goal.invariant-loop-place
invariant-loop-place l = l.octets.items ≡ map (octet_of l.types l.number) (below l.place)

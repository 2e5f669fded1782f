use Rattle.std.proofs.Common.{◌≡◌, vec_len}
use Rattle.definitions.specs.Bitmap.{trimmed}
use Rattle.definitions.proofs.reference.bitmap.trim.Given as goal

abbrev pub invariant-loop-octets : goal.invariant-loop-octets
invariant-loop-octets l = trimmed l.octets.items ≡ trimmed l.fn.octets.items

abbrev pub decreases-loop-octets : goal.decreases-loop-octets
decreases-loop-octets l = vec_len l.octets

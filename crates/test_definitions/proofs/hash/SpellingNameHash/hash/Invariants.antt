use Rattle.std.proofs.Common.{◌≡◌, take}
use Rattle.definitions.specs.Name.{low}
use Rattle.test_definitions.specs.Hashing.{spelling}
use Rattle.test_definitions.proofs.hash.SpellingNameHash.hash.Given as goal

abbrev pub invariant-loop-label : goal.invariant-loop-label
invariant-loop-label l = l.octets.items ≡ spelling (low (take l.label-index l.name))

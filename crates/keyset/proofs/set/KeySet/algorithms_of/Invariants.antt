use Rattle.std.proofs.Common.{map, take}
use Rattle.keyset.specs.Listing.{AreAlgorithmsOf}
use Rattle.keyset.proofs.set.KeySet.algorithms_of.Given as goal

-- those of the keys before
abbrev pub invariant-loop-reference : goal.invariant-loop-reference
invariant-loop-reference g l = AreAlgorithmsOf l.self (map g.T.AsStr.text (take l.reference-index l.references)) l.found

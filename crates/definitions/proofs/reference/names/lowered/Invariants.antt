use Rattle.std.proofs.Common.{◌≡◌, take}
use Rattle.definitions.specs.Name.{low}
use Rattle.definitions.proofs.reference.names.lowered.Given as goal

abbrev pub invariant-loop-label : goal.invariant-loop-label
invariant-loop-label l = l.labels.items ≡ low (take l.label-index l.name)

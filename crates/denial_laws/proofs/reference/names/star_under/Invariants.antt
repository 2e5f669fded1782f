use Rattle.std.proofs.Common.{◌≡◌, take}
use Rattle.definitions.specs.Zone.{star_under}
use Rattle.denial_laws.proofs.reference.names.star_under.Given as goal

abbrev pub invariant-loop-label : goal.invariant-loop-label
invariant-loop-label l = l.labels.items ≡ star_under (take l.label-index l.name)

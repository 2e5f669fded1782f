use Rattle.std.proofs.Common.{take}
use Rattle.std.specs.List.{AllByRecursion}
use Rattle.definitions.specs.Name.{IsName}
use Rattle.answer_publisher.proofs.publishing.owners_keep.Given as goal

abbrev pub invariant-loop-group : goal.invariant-loop-group
invariant-loop-group l = AllByRecursion (λ g. IsName g.owner) (take l.group-index l.groups)

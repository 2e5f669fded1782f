use Rattle.std.proofs.Common.{◌≡◌}
use Rattle.names_labels.specs.Compare.{begins_with}
use Rattle.names_labels.proofs.traits.agrees.Given as goal

abbrev pub invariant-loop-b : goal.invariant-loop-b
invariant-loop-b g l = begins_with l.fn.labels l.fn.wanted ≡ begins_with l.labels l.wanted

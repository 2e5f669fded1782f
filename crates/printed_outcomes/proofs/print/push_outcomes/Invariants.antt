use Rattle.std.proofs.Common.{◌≡◌, ◌++◌, ◌∷◌, [], take, string_bytes}
use Rattle.std.specs.List.{flat_map}
use Rattle.printed_outcomes.specs.Printed.{outcome_text}
use Rattle.printed_outcomes.proofs.print.push_outcomes.Given as goal

abbrev pub invariant-loop-outcome : goal.invariant-loop-outcome
invariant-loop-outcome l = string_bytes l.out ≡ string_bytes l.initial.out ++ flat_map (λ o. outcome_text o ++ 10 ∷ []) (take l.outcome-index l.outcomes)

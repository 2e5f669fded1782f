use Rattle.std.proofs.Common.{◌≡◌, ◌++◌, ◌+◌, drop, map, take}
use Rattle.denial_sorted.proofs.starts.raise.Given as goal

abbrev pub invariant-loop-at : goal.invariant-loop-at
invariant-loop-at l = l.places ≡ map (λ s. s + 1) (take l.at l.fn.places) ++ drop l.at l.fn.places

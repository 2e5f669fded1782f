use Rattle.std.proofs.Common.{◌≡◌, ◌<◌, ◌^◌, map, max}
use Rattle.keyset.specs.KeyState.{greatest}
use Rattle.keyset_rolls.specs.Rolls.{awaited}
use Rattle.keyset_due.specs.Dues.{end_of}
use Rattle.keyset_due.proofs.dues.greatest_end.Given as goal

-- the greatest so far and of what is left is that of all
abbrev pub invariant-loop-key : goal.invariant-loop-key
invariant-loop-key l =
    (max l.greatest (greatest (map (λ k. end_of l.ttl (awaited l.turn l.rolltype k)) l.key-iterator))
    ≡ greatest (map (λ k. end_of l.ttl (awaited l.turn l.rolltype k)) l.initial.key-iterator))
    × (l.greatest < 2 ^ 96)

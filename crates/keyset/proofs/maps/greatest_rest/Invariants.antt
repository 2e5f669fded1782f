use Rattle.std.proofs.Common.{◌≡◌, ◌*◌, ◌≤◌, map, max}
use Rattle.keyset.specs.KeyState.{greatest}
use Rattle.keyset_rolls.specs.Rolls.{awaited, rest_of}
use Rattle.keyset.proofs.maps.greatest_rest.Given as goal

-- the greatest so far and of what is left is that of all
abbrev pub invariant-loop-key : goal.invariant-loop-key
invariant-loop-key l =
    (max l.greatest (greatest (map (λ k. rest_of l.ttl l.now (awaited l.turn l.rolltype k)) l.key-iterator))
    ≡ greatest (map (λ k. rest_of l.ttl l.now (awaited l.turn l.rolltype k)) l.initial.key-iterator))
    × (l.greatest ≤ l.ttl * 1_000_000_000)

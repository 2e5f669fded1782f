use Rattle.std.proofs.Common.{◌≡◌, true}
use Rattle.names_wire.specs.Owned.{owned_octets}
use Rattle.names_wire.specs.Symbols.{is_begun}
use Rattle.names_wire.proofs.PartLabel.{PartRead}
use Rattle.names_wire.proofs.owned.OwnedLabel.from_chars.Given as goal

abbrev pub invariant-loop-ch : goal.invariant-loop-ch
invariant-loop-ch g l =
    (goal.iterator-loop-ch g).can_next l.ch-iterator ×
    (goal.iterator-loop-ch g).is_finite l.ch-iterator ×
    PartRead l.yielded l.reader (owned_octets l.label) ×
    (is_begun l.reader ≡ true)

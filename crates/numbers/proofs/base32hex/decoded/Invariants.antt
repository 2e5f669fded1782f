use Rattle.std.proofs.Common.{List, ℕ, ◌++◌, length}
use Rattle.numbers.specs.Decoding.{Spells, SpellsNothing}
use Rattle.numbers.proofs.base32hex.decoded.Given as goal

abbrev pub invariant-loop-rest : goal.invariant-loop-rest
invariant-loop-rest l = record {
  more : (o : List ℕ) → Spells o l.rest → Spells (l.octets.items ++ o) l.digits;
  none : SpellsNothing l.rest → SpellsNothing l.digits;
}

abbrev pub decreases-loop-rest : goal.decreases-loop-rest
decreases-loop-rest l = length l.rest

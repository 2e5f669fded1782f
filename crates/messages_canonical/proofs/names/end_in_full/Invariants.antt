use Rattle.messages_canonical.proofs.NamesInFull.{RowTo}
use Rattle.messages_canonical.proofs.names.end_in_full.Given as goal

-- labels stand in a row so far
abbrev pub invariant-loop : goal.invariant-loop
invariant-loop l = RowTo l.message l.start l.place

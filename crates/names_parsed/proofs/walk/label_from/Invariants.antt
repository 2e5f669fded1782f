use Rattle.std.proofs.Common.{◌≡◌, true}
use Rattle.names_parsed.specs.Standing.{stands_at, name_from, KeepsRow}
use Rattle.names_parsed.proofs.walk.label_from.Given as goal

abbrev pub decreases-loop-label : goal.decreases-loop-label
decreases-loop-label l = l.place

abbrev pub invariant-loop-label : goal.invariant-loop-label
invariant-loop-label l = record {
  stands : stands_at l.message l.place ≡ true;
  labels : name_from l.message l.place ≡ name_from l.message l.fn.start;
  row : KeepsRow l.message l.fn.start l.place;
}

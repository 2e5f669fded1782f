use Rattle.std.proofs.Common.{◌≡◌, true, drop}
use Rattle.names_parsed.specs.Standing.{stands_at, name_from, KeepsRow}
use Rattle.names_parsed.proofs.walk.place_behind.Given as goal

abbrev pub invariant-loop : goal.invariant-loop
invariant-loop l = record {
  stands : stands_at l.message l.place ≡ true;
  labels : name_from l.message l.place ≡ drop l.counter (name_from l.message l.start);
  row : KeepsRow l.message l.start l.place;
}

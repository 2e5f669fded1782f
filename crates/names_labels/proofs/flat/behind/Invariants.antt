use Rattle.names_labels.proofs.Cuts.{Behind}
use Rattle.names_labels.proofs.flat.behind.Given as goal

abbrev pub invariant-loop : goal.invariant-loop
invariant-loop l = Behind l.run l.rest l.counter

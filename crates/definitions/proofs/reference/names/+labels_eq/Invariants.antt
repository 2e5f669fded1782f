use Rattle.std.proofs.Common.{length}
use Rattle.definitions.proofs.reference.names.+labels_eq.Given as goal

abbrev pub decreases-labels_eq : goal.decreases-labels_eq
decreases-labels_eq l = length l.a.now

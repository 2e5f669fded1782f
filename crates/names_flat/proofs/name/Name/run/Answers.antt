use Rattle.names_labels.proofs.Rooted.{flat_run, flat_labels}
use Rattle.names_flat.proofs.name.Name.run.Goals as goal

pub returns-clause-run : goal.returns-clause-run
returns-clause-run g c = rw c.as_slice.ensures (flat_run _ c.self.invariant)

pub returns-clause-labels : goal.returns-clause-labels
returns-clause-labels g c = rw (c.as_slice.ensures, ← c.self.view_is) (flat_labels _ c.self.invariant)

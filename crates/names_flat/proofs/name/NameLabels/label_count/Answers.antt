use Rattle.names_labels.proofs.Rooted.{rooted_short}
use Rattle.names_flat.proofs.name.NameLabels.label_count.Goals as goal

pub returns-clause-short : goal.returns-clause-short
returns-clause-short g c = rooted_short c.args.self.now c.run.ensures.name

use Rattle.std.proofs.Common.{arith}
use Rattle.names_labels.proofs.Relatives.{relative_short}
use Rattle.names_flat.proofs.relative.RelativeNameLabels.label_count.Goals as goal

pub returns-clause-short : goal.returns-clause-short
returns-clause-short g c = let s = relative_short c.args.self.now c.run.ensures.name in omega arith

use Rattle.names_wire.proofs.Along.{along_within}
use Rattle.names_wire.proofs.labels.SliceLabelsIter.new.Goals as goal

pub returns : goal.returns
returns c = along_within c.args.slice.now c.args.start c.min.result c.min.ensures

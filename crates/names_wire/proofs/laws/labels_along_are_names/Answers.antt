use Rattle.names_wire.proofs.AlongNames.{along_names}
use Rattle.names_wire.proofs.laws.labels_along_are_names.Goals as goal

pub returns : goal.returns
returns c = along_names

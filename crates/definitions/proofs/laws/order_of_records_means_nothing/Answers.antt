use Rattle.definitions.proofs.SameZones.{order_means_nothing}
use Rattle.definitions.proofs.laws.order_of_records_means_nothing.Goals as goal

pub returns : goal.returns
returns c = order_means_nothing

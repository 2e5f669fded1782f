use Rattle.definitions.proofs.LawProofs.{orders_names}
use Rattle.definitions.proofs.laws.name_order.Goals as goal

pub returns : goal.returns
returns c = orders_names

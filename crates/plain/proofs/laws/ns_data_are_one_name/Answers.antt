use Rattle.plain.proofs.PartsRead.{ns_is_name}
use Rattle.plain.proofs.laws.ns_data_are_one_name.Goals as goal

pub returns : goal.returns
returns c = ns_is_name

use Rattle.definitions.proofs.LawProofs.{is_interval}
use Rattle.definitions.proofs.laws.names_below_apex.Goals as goal

pub returns : goal.returns
returns c = is_interval

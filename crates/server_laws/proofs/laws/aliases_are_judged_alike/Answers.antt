use Rattle.server_laws.proofs.Denied.{aliases_judged}
use Rattle.server_laws.proofs.laws.aliases_are_judged_alike.Goals as goal

pub returns : goal.returns
returns c = aliases_judged

use Rattle.server_laws.proofs.Denied.{subsets_judged}
use Rattle.server_laws.proofs.laws.subsets_are_judged_alike.Goals as goal

pub returns : goal.returns
returns c = subsets_judged

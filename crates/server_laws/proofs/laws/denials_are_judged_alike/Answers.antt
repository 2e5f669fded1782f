use Rattle.server_laws.proofs.Denied.{denials_judged}
use Rattle.server_laws.proofs.laws.denials_are_judged_alike.Goals as goal

pub returns : goal.returns
returns c = denials_judged

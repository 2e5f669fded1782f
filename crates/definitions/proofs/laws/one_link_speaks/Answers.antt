use Rattle.definitions.proofs.LawProofs.{one_link_speaks}
use Rattle.definitions.proofs.laws.one_link_speaks.Goals as goal

pub returns : goal.returns
returns c = one_link_speaks

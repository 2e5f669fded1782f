use Rattle.definitions.proofs.CircleLaws.{one_hash_link_speaks}
use Rattle.definitions.proofs.laws.one_hash_link_speaks.Goals as goal

pub returns : goal.returns
returns c = one_hash_link_speaks

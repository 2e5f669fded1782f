use Rattle.walk_laws.proofs.Kept.{messages_are_found}
use Rattle.walk_laws.proofs.laws.messages_are_found.Goals as goal

pub returns : goal.returns
returns c = messages_are_found

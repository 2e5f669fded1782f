use Rattle.witness_laws.proofs.AreShown.{are_shown}
use Rattle.witness_laws.proofs.evidence.some_messages_show.Goals as goal

pub returns : goal.returns
returns c = are_shown

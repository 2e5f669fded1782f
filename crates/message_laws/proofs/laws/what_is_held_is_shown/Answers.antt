use Rattle.message_laws.proofs.Held.{held_is_included}
use Rattle.message_laws.proofs.laws.what_is_held_is_shown.Goals as goal

pub returns : goal.returns
returns c = held_is_included

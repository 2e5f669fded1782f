use Rattle.message_laws.proofs.Shown.{shown_is_said}
use Rattle.message_laws.proofs.laws.what_is_shown_is_said.Goals as goal

pub returns : goal.returns
returns c = shown_is_said

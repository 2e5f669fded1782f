use Rattle.message_laws.proofs.HonestShown.{honest_is_shown, honest_is_truthful}
use Rattle.message_laws.proofs.laws.what_is_honest_is_shown.Goals as goal

pub returns : goal.returns
returns c = record { truthful = honest_is_truthful; shown = honest_is_shown }

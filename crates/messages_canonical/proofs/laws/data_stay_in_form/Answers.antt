use Rattle.messages_canonical.proofs.Anywhere.{stay_in_form}
use Rattle.messages_canonical.proofs.laws.data_stay_in_form.Goals as goal

pub returns : goal.returns
returns c = stay_in_form

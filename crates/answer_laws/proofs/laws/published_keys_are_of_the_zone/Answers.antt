use Rattle.answer_laws.proofs.KeyLife.{keys_of_the_zone}
use Rattle.answer_laws.proofs.laws.published_keys_are_of_the_zone.Goals as goal

pub returns : goal.returns
returns c = keys_of_the_zone

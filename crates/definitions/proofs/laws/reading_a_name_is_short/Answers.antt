use Rattle.definitions.proofs.ReadingLaws.{reading_is_short}
use Rattle.definitions.proofs.laws.reading_a_name_is_short.Goals as goal

pub returns : goal.returns
returns c = reading_is_short

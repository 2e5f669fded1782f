use Rattle.definitions.proofs.BitmapLaws.{spells_set}
use Rattle.definitions.proofs.laws.bitmap_spells_its_set.Goals as goal

pub returns : goal.returns
returns c = spells_set

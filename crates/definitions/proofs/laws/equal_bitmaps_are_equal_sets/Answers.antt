use Rattle.definitions.proofs.BitmapLaws.{one_spelling}
use Rattle.definitions.proofs.laws.equal_bitmaps_are_equal_sets.Goals as goal

pub returns : goal.returns
returns c = one_spelling

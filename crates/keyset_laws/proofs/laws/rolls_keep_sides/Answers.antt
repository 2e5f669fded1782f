use Rattle.keyset_laws.proofs.Meets as meets
use Rattle.keyset_laws.proofs.laws.rolls_keep_sides.Goals as goal

pub returns : goal.returns
returns c = meets.rolls_keep_sides

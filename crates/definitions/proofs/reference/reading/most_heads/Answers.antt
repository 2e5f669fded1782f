use Rattle.std.proofs.Common.{refl}
use Rattle.definitions.specs.Reading.{most_heads}
use Rattle.definitions.proofs.reference.reading.most_heads.Goals as goal

pub returns : goal.returns
unfolding most_heads
returns c = refl

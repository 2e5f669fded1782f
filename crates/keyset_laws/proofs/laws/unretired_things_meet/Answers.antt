use Rattle.keyset_laws.proofs.Meets as meets
use Rattle.keyset_laws.proofs.laws.unretired_things_meet.Goals as goal

pub returns : goal.returns
returns c = meets.unretired_things_meet

use Rattle.keyset_laws.proofs.Meets as meets
use Rattle.keyset_laws.proofs.laws.calls_make_lives.Goals as goal

pub returns : goal.returns
returns c = meets.calls_make_lives

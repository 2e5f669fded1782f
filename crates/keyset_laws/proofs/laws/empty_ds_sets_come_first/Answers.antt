use Rattle.keyset_laws.proofs.Meets as meets
use Rattle.keyset_laws.proofs.laws.empty_ds_sets_come_first.Goals as goal

pub returns : goal.returns
returns c = meets.empty_ds_sets_come_first

use Rattle.denial_fields.proofs.ReadBack.{salts_back}
use Rattle.denial_fields.proofs.laws.salts_are_read_back.Goals as goal

pub returns : goal.returns
returns c = salts_back

use Rattle.denial_data.proofs.Told.{digests_told}
use Rattle.denial_data.proofs.laws.ds_octets_tell_the_data.Goals as goal

pub returns : goal.returns
returns c = digests_told

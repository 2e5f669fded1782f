use Rattle.denial_data.proofs.Told.{hashed_told}
use Rattle.denial_data.proofs.laws.nsec3_octets_tell_the_data.Goals as goal

pub returns : goal.returns
returns c = hashed_told

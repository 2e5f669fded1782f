use Rattle.denial_data.proofs.Told.{links_told}
use Rattle.denial_data.proofs.laws.nsec_octets_tell_the_data.Goals as goal

pub returns : goal.returns
returns c = links_told

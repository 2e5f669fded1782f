use Rattle.denial_data.proofs.Told.{signatures_told}
use Rattle.denial_data.proofs.laws.rrsig_octets_tell_the_data.Goals as goal

pub returns : goal.returns
returns c = signatures_told

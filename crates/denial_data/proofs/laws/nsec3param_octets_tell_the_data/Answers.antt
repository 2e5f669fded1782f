use Rattle.denial_data.proofs.Told.{parameters_told}
use Rattle.denial_data.proofs.laws.nsec3param_octets_tell_the_data.Goals as goal

pub returns : goal.returns
returns c = parameters_told

use Rattle.denial_data.proofs.Told.{keys_told}
use Rattle.denial_data.proofs.laws.dnskey_octets_tell_the_data.Goals as goal

pub returns : goal.returns
returns c = keys_told

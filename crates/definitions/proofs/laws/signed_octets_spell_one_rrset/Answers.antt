use Rattle.definitions.proofs.SignedLaws.{signed_octets_spell}
use Rattle.definitions.proofs.laws.signed_octets_spell_one_rrset.Goals as goal

pub returns : goal.returns
returns c = signed_octets_spell

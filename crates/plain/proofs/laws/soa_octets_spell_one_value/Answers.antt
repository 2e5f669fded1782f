use Rattle.plain.proofs.Spells.{soa_spells}
use Rattle.plain.proofs.laws.soa_octets_spell_one_value.Goals as goal

pub returns : goal.returns
returns c = soa_spells

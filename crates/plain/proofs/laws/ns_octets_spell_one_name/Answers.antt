use Rattle.plain.proofs.Spells.{ns_spells}
use Rattle.plain.proofs.laws.ns_octets_spell_one_name.Goals as goal

pub returns : goal.returns
returns c = ns_spells

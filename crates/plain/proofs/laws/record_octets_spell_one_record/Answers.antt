use Rattle.plain.proofs.Spells.{record_spells}
use Rattle.plain.proofs.laws.record_octets_spell_one_record.Goals as goal

pub returns : goal.returns
returns c = record_spells

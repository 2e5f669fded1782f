use Rattle.definitions.proofs.SignedLaws.{wire_spells}
use Rattle.definitions.proofs.laws.wire_form_spells_one_name.Goals as goal

pub returns : goal.returns
returns c = wire_spells

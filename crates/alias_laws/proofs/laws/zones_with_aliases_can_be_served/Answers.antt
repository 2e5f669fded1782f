use Rattle.alias_laws.proofs.Orderly.{servable}
use Rattle.alias_laws.proofs.laws.zones_with_aliases_can_be_served.Goals as goal

pub returns : goal.returns
returns c = servable

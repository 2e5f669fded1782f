use Rattle.alias_laws.proofs.Orderly.{accepted_with_aliases}
use Rattle.alias_laws.proofs.laws.accepted_zones_are_accepted_with_aliases.Goals as goal

pub returns : goal.returns
returns c = accepted_with_aliases

use Rattle.alias_laws.proofs.Aliases.{redirectors_found}
use Rattle.alias_laws.proofs.laws.redirectors_are_found.Goals as goal

pub returns : goal.returns
returns c = redirectors_found

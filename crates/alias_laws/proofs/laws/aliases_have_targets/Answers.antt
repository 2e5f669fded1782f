use Rattle.alias_laws.proofs.Aliases.{targets}
use Rattle.alias_laws.proofs.laws.aliases_have_targets.Goals as goal

pub returns : goal.returns
returns c = targets

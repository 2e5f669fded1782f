use Rattle.tree_laws.proofs.Trees.{verdicts_are_of_zones_above}
use Rattle.tree_laws.proofs.laws.verdicts_are_of_zones_above.Goals as goal

pub returns : goal.returns
returns c = verdicts_are_of_zones_above

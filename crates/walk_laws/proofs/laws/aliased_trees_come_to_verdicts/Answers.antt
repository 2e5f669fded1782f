use Rattle.walk_laws.proofs.ServedAliases.{aliased_trees_come_to_verdicts}
use Rattle.walk_laws.proofs.laws.aliased_trees_come_to_verdicts.Goals as goal

pub returns : goal.returns
returns c = aliased_trees_come_to_verdicts c.trees_say_one.ensures c.trees_resolve_to_one.ensures

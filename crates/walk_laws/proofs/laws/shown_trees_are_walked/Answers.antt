use Rattle.walk_laws.proofs.ShownTrees.{shown_trees_are_walked}
use Rattle.walk_laws.proofs.laws.shown_trees_are_walked.Goals as goal

pub returns : goal.returns
returns c = shown_trees_are_walked c.trees_say_one.ensures c.trees_resolve_to_one.ensures

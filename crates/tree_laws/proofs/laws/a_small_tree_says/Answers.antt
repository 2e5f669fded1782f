use Rattle.tree_laws.proofs.SmallTree.{small_tree_says}
use Rattle.tree_laws.proofs.laws.a_small_tree_says.Goals as goal

pub returns : goal.returns
returns c = small_tree_says

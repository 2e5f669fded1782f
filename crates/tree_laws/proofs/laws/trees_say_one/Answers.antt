use Rattle.tree_laws.proofs.Trees.{trees_say_one}
use Rattle.tree_laws.proofs.laws.trees_say_one.Goals as goal

pub returns : goal.returns
returns c = trees_say_one c.only_aliases_lead.ensures c.aliases_lead_to_one.ensures

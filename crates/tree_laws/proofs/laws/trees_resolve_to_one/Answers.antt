use Rattle.tree_laws.proofs.Trees.{trees_resolve_to_one}
use Rattle.tree_laws.proofs.laws.trees_resolve_to_one.Goals as goal

pub returns : goal.returns
returns c = trees_resolve_to_one c.only_aliases_lead.ensures c.aliases_lead_to_one.ensures

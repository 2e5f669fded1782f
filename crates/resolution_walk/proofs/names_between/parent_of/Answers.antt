use Rattle.resolution_walk.proofs.Parents.{parent_in}
use Rattle.resolution_walk.proofs.names_between.parent_of.Goals as goal

pub returns-in-Some : goal.returns-in-Some
returns-in-Some c = parent_in c.args.name.now _ c.some_copy.result c.in-Some.ensures.root.1 c.in-Some.ensures.value c.some_copy.ensures

use Rattle.std.proofs.Common.{length}
use Rattle.resolution_walk.proofs.names_between.+search_down_to.Given as goal

abbrev pub decreases-search_down_to : goal.decreases-search_down_to
decreases-search_down_to g l = length l.name.now

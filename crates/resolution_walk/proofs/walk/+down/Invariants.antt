use Rattle.std.proofs.Common.{◌+◌, ◌*◌}
use Rattle.resolution_walk.proofs.walk.+down.Given as goal

-- each delegation takes two steps
abbrev pub decreases-descend : goal.decreases-descend
decreases-descend g l = 2 * l.cuts + 1

abbrev pub decreases-descend_below : goal.decreases-descend_below
decreases-descend_below g l = 2 * l.cuts

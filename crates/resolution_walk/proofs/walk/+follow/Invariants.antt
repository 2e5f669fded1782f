use Rattle.resolution_walk.proofs.walk.+follow.Given as goal

abbrev pub decreases-follow : goal.decreases-follow
decreases-follow g l = l.left.aliases

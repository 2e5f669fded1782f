use Rattle.names_parsed.proofs.PassSteps.{Passed}
use Rattle.names_parsed.proofs.skip.skip_from.Given as goal

abbrev pub invariant-loop-found : goal.invariant-loop-found
invariant-loop-found l = Passed l.message l.fn.start l.place l.room

abbrev pub decreases-loop-found : goal.decreases-loop-found
decreases-loop-found l = l.room

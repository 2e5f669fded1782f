use Rattle.std.proofs.Common.{◌≡◌, ◌++◌, map}
use Rattle.denial_nsec3_names.specs.Chained.{spot_of}
use Rattle.denial_nsec3_names.specs.Walk.{last_spots}
use Rattle.denial_nsec3_names.proofs.names.push_names.Given as goal

abbrev pub invariant-loop-skipped : goal.invariant-loop-skipped
invariant-loop-skipped g l =
    map spot_of l.names.items ++ last_spots l.skipped l.owner ≡ map spot_of l.initial.names.items ++ last_spots l.fn.count l.owner

abbrev pub decreases-loop-skipped : goal.decreases-loop-skipped
decreases-loop-skipped g l = l.skipped

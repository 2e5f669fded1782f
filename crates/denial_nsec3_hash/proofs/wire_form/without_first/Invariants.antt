use Rattle.std.proofs.Common.{◌≡◌, drop}
use Rattle.denial_nsec3_hash.proofs.wire_form.without_first.Given as goal

abbrev pub invariant-loop-left : goal.invariant-loop-left
invariant-loop-left g l = drop l.left l.rest ≡ drop l.fn.count l.fn.labels

abbrev pub decreases-loop-left : goal.decreases-loop-left
decreases-loop-left g l = l.left

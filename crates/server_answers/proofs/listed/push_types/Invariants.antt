use Rattle.std.proofs.Common.{◌≡◌, ◌++◌}
use Rattle.denial_bitmap.specs.Types.{types_in}
use Rattle.server_answers.proofs.listed.push_types.Given as goal

abbrev pub invariant-loop-rtype : goal.invariant-loop-rtype
invariant-loop-rtype l = l.types.items ++ l.left ≡ l.fn.types.items ++ types_in l.bitmap

use Rattle.std.proofs.Common.{◌≡◌, drop, map}
use Rattle.keyset.specs.KeyState.{first_fault, old_fault}
use Rattle.keyset.proofs.set.KeySet.check_old_keys.Given as goal

-- the first fault of what is left is that of all
abbrev pub invariant-loop-reference : goal.invariant-loop-reference
invariant-loop-reference g l =
    let fault = first_fault (old_fault l.rolltype l.self) in
    fault (map g.T.AsStr.text (drop l.reference-index l.old)) ≡ fault (map g.T.AsStr.text l.old)

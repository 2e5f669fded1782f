use Rattle.std.proofs.Common.{◌≡◌, take}
use Rattle.resolution_walk.proofs.place.copied_ds.Given as goal

abbrev pub invariant-loop-one : goal.invariant-loop-one
invariant-loop-one l = l.copied.items ≡ take l.one-index l.ds

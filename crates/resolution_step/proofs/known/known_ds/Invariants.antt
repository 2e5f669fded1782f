use Rattle.std.proofs.Common.{◌≡◌, ◌++◌, drop, map}
use Rattle.resolution_step.specs.KnownDs.{known_ds}
use Rattle.resolution_step.proofs.known.known_ds.Given as goal

-- the records so far and those of what is left are those of all
abbrev pub invariant-loop-datum : goal.invariant-loop-datum
invariant-loop-datum l = l.known.items ++ known_ds l.algorithms (map (λ d. d.items) (drop l.datum-index l.datas)) ≡ known_ds l.fn.algorithms (map (λ d. d.items) l.fn.datas)

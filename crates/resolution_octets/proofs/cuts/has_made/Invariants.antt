use Rattle.std.proofs.Common.{◌≡◌, drop, map}
use Rattle.resolution_octets.specs.Cuts.{has_made}
use Rattle.resolution_octets.proofs.cuts.has_made.Given as goal

abbrev pub invariant-loop-datum : goal.invariant-loop-datum
invariant-loop-datum l = has_made (map (λ d. d.items) (drop l.datum-index l.datas)) ≡ has_made (map (λ d. d.items) l.datas)

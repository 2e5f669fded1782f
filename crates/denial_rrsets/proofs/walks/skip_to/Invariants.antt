use Rattle.std.proofs.Common.{◌≡◌, length}
use Rattle.definitions.specs.Name.{at_or_above}
use Rattle.denial_rrsets.specs.Groups.{from_first}
use Rattle.denial_rrsets.specs.Slices.{items_of}
use Rattle.denial_rrsets.proofs.walks.skip_to.Given as goal

abbrev pub invariant-loop-rr : goal.invariant-loop-rr
invariant-loop-rr g l = from_first (λ r. at_or_above (g.N.Labels.name l.apex) (g.N.Labels.name r.owner)) (items_of l.rest) ≡ from_first (λ r. at_or_above (g.N.Labels.name l.apex) (g.N.Labels.name r.owner)) (items_of l.fn.slice)

abbrev pub decreases-loop-rr : goal.decreases-loop-rr
decreases-loop-rr g l = length (items_of l.rest)

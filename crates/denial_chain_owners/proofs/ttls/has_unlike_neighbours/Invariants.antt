use Rattle.std.proofs.Common.{◌≡◌, ◌∷◌}
use Rattle.denial_chain_owners.specs.Ttls.{unlike_ttls}
use Rattle.denial_rrsets.specs.Groups.{neighbours}
use Rattle.denial_chain_owners.proofs.ttls.has_unlike_neighbours.Given as goal

abbrev pub invariant-loop-rr : goal.invariant-loop-rr
invariant-loop-rr g l =
    neighbours (unlike_ttls g.D.RecordData.type_of) (l.last ∷ l.records) ≡ neighbours (unlike_ttls g.D.RecordData.type_of) l.fn.records

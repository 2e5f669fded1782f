use Rattle.std.proofs.Common.{length}
use Rattle.denial_rrsets.specs.Groups.{groups, of_one_owner}
use Rattle.denial_chain_owners.proofs.Steps.{Walks}
use Rattle.denial_chain_owners.proofs.kept.kept_owners.Given as goal

abbrev pub invariant-loop-owner : goal.invariant-loop-owner
invariant-loop-owner g l =
    Walks g.N.Labels.name g.D.RecordData.type_of g.D.RecordData.canonical_rdata (g.N.Labels.name l.apex) l.fn.records l.excluding l.cut l.kept.items l.records

abbrev pub decreases-loop-owner : goal.decreases-loop-owner
decreases-loop-owner g l = length (groups (of_one_owner g.N.Labels.name) l.records)

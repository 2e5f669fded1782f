use Rattle.std.proofs.Common.{◌≡◌, ◌++◌, map, drop}
use Rattle.denial_nsec3_names.specs.Chained.{spot_of}
use Rattle.denial_nsec3_names.specs.Walk.{spots_behind, spots_of}
use Rattle.denial_rrsets.specs.Groups.{group_owner}
use Rattle.denial_nsec3_names.proofs.names.chain_names.Given as goal

abbrev pub invariant-loop-owner : goal.invariant-loop-owner
invariant-loop-owner g l =
    let name = group_owner g.N.Labels.name in
    map spot_of l.names.items ++ spots_behind name l.before (drop l.owner-index l.behind) ≡ spots_of name l.owners

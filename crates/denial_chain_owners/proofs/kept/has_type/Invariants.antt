use Rattle.std.proofs.Common.{◌≡◌}
use Rattle.denial_chain_owners.specs.Types.{has_type}
use Rattle.denial_chain_owners.proofs.kept.has_type.Given as goal

abbrev pub invariant-loop-rr : goal.invariant-loop-rr
invariant-loop-rr g l = has_type g.D.RecordData.type_of l.rtype l.records ≡ has_type g.D.RecordData.type_of l.rtype l.owner

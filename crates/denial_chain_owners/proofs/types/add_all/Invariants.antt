use Rattle.denial_chain_owners.proofs.Adding.{Adds}
use Rattle.denial_chain_owners.proofs.types.add_all.Given as goal

abbrev pub invariant-loop-rr : goal.invariant-loop-rr
invariant-loop-rr g l = Adds g.D.RecordData.type_of l.fn.records l.records l.fn.types l.types l.last

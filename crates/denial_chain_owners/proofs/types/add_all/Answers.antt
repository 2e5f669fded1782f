use Rattle.std.proofs.Common.{◌∙◌, sym}
use Rattle.denial_chain_owners.proofs.Adding.{added, passed}
use Rattle.denial_chain_owners.proofs.types.add_all.Goals as goal

pub loop-rr-preserved-then-not-is_last : goal.loop-rr-preserved-then-not-is_last
loop-rr-preserved-then-not-is_last g c =
    added g.D.RecordData.type_of c.args.records c.loop-rr.records c.next.new.self c.in-Some.rr.now c.args.types.now c.loop-rr.types c.add.new.self c.loop-rr.last c.rtype-rtype.result c.rtype-rtype.ensures c.in-Some.ensures.steps c.loop-rr.invariant
    (λ ts e. c.in_ok-add.ensures.ok ts e)

pub loop-rr-preserved : goal.loop-rr-preserved
loop-rr-preserved g c =
    passed g.D.RecordData.type_of c.args.records c.loop-rr.records c.next.new.self c.in-Some.rr.now c.args.types.now c.loop-rr.types c.loop-rr.last c.rtype-rtype.result c.rtype-rtype.ensures c.in-Some.ensures.steps (sym c.is_last.ensures ∙ c.if-not-is_last.false) c.loop-rr.invariant

use Rattle.std.proofs.Common.{sym, subst, None}
use Rattle.denial_chain_owners.proofs.Steps.{Walks, as_walks, step_cuts, step_keeps, step_leaves, step_passes, walk_begins}
use Rattle.denial_chain_owners.proofs.kept.kept_owners.Goals as goal
use Rattle.denial_chain_owners.proofs.kept.kept_owners.Goals.{then-is_cut+else-is_left_out, else-is_cut}

pub loop-owner-init : goal.loop-owner-init
loop-owner-init g c =
    subst (λ ks. Walks g.N.Labels.name g.D.RecordData.type_of g.D.RecordData.canonical_rdata (g.N.Labels.name c.args.apex.now) c.args.records c.args.excluding None ks c.args.records) (sym c.new-kept.ensures.items)
    (walk_begins g.N.Labels.name g.D.RecordData.type_of g.D.RecordData.canonical_rdata (g.N.Labels.name c.args.apex.now) c.args.records g.D.CanonicalOrd.canonical c.args.excluding c.requires.class c.requires.order)

pub loop-owner-preserved-then-not-is_within : goal.loop-owner-preserved-then-not-is_within
loop-owner-preserved-then-not-is_within g c =
    step_passes g.N.Labels.name g.D.RecordData.type_of g.D.RecordData.canonical_rdata (g.N.Labels.name c.args.apex.now) c.args.records c.args.excluding c.loop-owner.cut c.loop-owner.kept.items c.loop-owner.records c.in-Some.owner c.next.new.self c.in-Some.ensures.steps c.loop-owner.invariant
    c.is_within.result c.is_within.ensures c.if-not-is_within.true

pub loop-owner-preserved-then-is_left_out : goal.loop-owner-preserved-then-is_left_out
loop-owner-preserved-then-is_left_out g c =
    step_leaves g.N.Labels.name g.D.RecordData.type_of g.D.RecordData.canonical_rdata (g.N.Labels.name c.args.apex.now) c.args.records c.args.excluding c.loop-owner.cut c.loop-owner.kept.items c.loop-owner.records c.in-Some.owner c.next.new.self c.in-Some.ensures.steps c.loop-owner.invariant
    c.is_within.result c.is_within.ensures c.if-not-is_within.false c.is_cut.result c.is_cut.ensures c.if-is_cut.true c.owner.result c.owner.ensures
    c.is_left_out.result c.is_left_out.ensures c.if-is_left_out.true

pub loop-owner-preserved : goal.loop-owner-preserved
loop-owner-preserved g c = elim c.if-is_cut.branch [
  | then-is_cut+else-is_left_out w ↦
      as_walks g.N.Labels.name g.D.RecordData.type_of g.D.RecordData.canonical_rdata (g.N.Labels.name c.args.apex.now) c.args.records c.args.excluding _ _ _ _ c.next.new.self w.cut-is c.in_ok-push.ensures.items
      (step_cuts g.N.Labels.name g.D.RecordData.type_of g.D.RecordData.canonical_rdata (g.N.Labels.name c.args.apex.now) c.args.records c.args.excluding c.loop-owner.cut c.loop-owner.kept.items c.loop-owner.records c.in-Some.owner c.next.new.self c.in-Some.ensures.steps c.loop-owner.invariant
      c.is_within.result c.is_within.ensures c.if-not-is_within.false c.is_cut.result c.is_cut.ensures w.if-is_cut.true w.owner.result w.owner.ensures
      w.is_left_out.result w.is_left_out.ensures w.if-is_left_out.false)
  | else-is_cut w ↦
      as_walks g.N.Labels.name g.D.RecordData.type_of g.D.RecordData.canonical_rdata (g.N.Labels.name c.args.apex.now) c.args.records c.args.excluding _ _ _ _ c.next.new.self w.cut-is c.in_ok-push.ensures.items
      (step_keeps g.N.Labels.name g.D.RecordData.type_of g.D.RecordData.canonical_rdata (g.N.Labels.name c.args.apex.now) c.args.records c.args.excluding c.loop-owner.cut c.loop-owner.kept.items c.loop-owner.records c.in-Some.owner c.next.new.self c.in-Some.ensures.steps c.loop-owner.invariant
      c.is_within.result c.is_within.ensures c.if-not-is_within.false c.is_cut.result c.is_cut.ensures w.if-is_cut.false)
]

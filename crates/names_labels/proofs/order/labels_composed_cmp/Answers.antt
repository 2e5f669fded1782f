use Rattle.std.proofs.Common.{◌∙◌}
use Rattle.names_wire.specs.Label.{octets_of}
use Rattle.names_labels.proofs.Orders.{composed, first_labels_then, stops_here, goes_on}
use Rattle.names_labels.proofs.order.labels_composed_cmp.Goals as goal

pub returns-then-is_ne : goal.returns-then-is_ne
returns-then-is_ne g c =
    let s = first_labels_then c.args.case c.loop-a.left c.loop-a.right (octets_of c.in-Some-Some.a) (octets_of c.in-Some-Some.b) c.next.new.self c.next-in-loop-a.new.self c.in-Some-Some.ensures.steps c.in-Some-Some.ensures'.steps in
    stops_here _ _ c.label_cmp-order.result (composed c.args.case c.next.new.self c.next-in-loop-a.new.self) _ (c.loop-a.invariant ∙ s) c.label_cmp-order.ensures c.is_ne.ensures c.if-is_ne.true

pub loop-a-preserved : goal.loop-a-preserved
loop-a-preserved g c =
    let s = first_labels_then c.args.case c.loop-a.left c.loop-a.right (octets_of c.in-Some-Some.a) (octets_of c.in-Some-Some.b) c.next.new.self c.next-in-loop-a.new.self c.in-Some-Some.ensures.steps c.in-Some-Some.ensures'.steps in
    goes_on _ _ c.label_cmp-order.result (composed c.args.case c.next.new.self c.next-in-loop-a.new.self) _ (c.loop-a.invariant ∙ s) c.label_cmp-order.ensures c.is_ne.ensures c.if-is_ne.false

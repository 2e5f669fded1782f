use Rattle.std.proofs.Common.{◌≡◌, ◌-◌, ◌∙◌, length, length-drop, sym, ap, arith}
use Rattle.std.specs.Ordering.{nat_cmp, ordering_then}
use Rattle.std.specs.declared.cmp.Ordering.TheVariants.{Equal}
use Rattle.names_wire.specs.Name.{name_cmp}
use Rattle.names_wire.specs.Label.{octets_of}
use Rattle.names_labels.proofs.Orders.{tails_then, next_then}
use Rattle.names_labels.proofs.order.labels_cmp.Goals as goal

pub loop-a-init : goal.loop-a-init
loop-a-init g c =
    let a = g.A.Labels.labels c.args.name.now in
    let b = g.B.Labels.labels c.args.other.now in
    let m = c.label_count-count.ensures.count in
    let n = c.label_count-other_count.ensures.count in
    let e : c.saturating_sub.result ≡ length a - length b = omega (arith, m, n) in
    let f : c.saturating_sub-2.result ≡ length b - length a = omega (arith, m, n) in
    let l = c.labels_counted-left.ensures in
    let r = c.labels_counted-right.ensures in
    record {
      tied = tails_then a b _ _ e f ∙ (λ t. ordering_then (ordering_then (name_cmp (sym l t) (sym r t)) Equal) (nat_cmp (length a) (length b)));
      even = ap length l ∙ length-drop c.saturating_sub.result a ∙ omega (arith, length-drop c.saturating_sub-2.result b, e, f, ap length r);
      count = m;
      other = n;
    }

pub loop-a-preserved : goal.loop-a-preserved
loop-a-preserved g c =
    let a = g.A.Labels.labels c.args.name.now in
    let b = g.B.Labels.labels c.args.other.now in
    let l = c.in-Some-Some-2.ensures.steps in
    let r = c.in-Some-Some-2.ensures'.steps in
    let even : length c.next.new.self ≡ length c.next-in-loop-a.new.self = omega (arith, c.loop-a.invariant.even, ap length l, ap length r) in
    record {
      tied = next_then (name_cmp a b) (nat_cmp (length a) (length b)) c.then-order.result c.cmp.result c.loop-a.order (octets_of c.in-Some-Some-2.a) (octets_of c.in-Some-Some-2.b) c.next.new.self c.next-in-loop-a.new.self even c.cmp.ensures c.then-order.ensures
          (c.loop-a.invariant.tied ∙ (λ t. ordering_then (ordering_then (name_cmp (l t) (r t)) c.loop-a.order) (nat_cmp (length a) (length b))));
      even = even;
      count = c.loop-a.invariant.count;
      other = c.loop-a.invariant.other;
    }

use Rattle.std.proofs.Common.{◌++◌, sym, ◌∙◌}
use Rattle.std.specs.Ordering.{nat_cmp}
use Rattle.std.specs.Cmp.Lexicographic.{slice_cmp}
use Rattle.definitions.specs.Name.{low, wire}
use Rattle.names_labels.proofs.Orders.{stops_here, goes_on}
use Rattle.plain.specs.Soa.{times_octets}
use Rattle.names_rdata.proofs.WireOrder.{no_root, wire_then}
use Rattle.plain.proofs.soa.SoaCanonicalOrd.canonical_cmp.Goals as goal

pub returns-then-is_ne : goal.returns-then-is_ne
returns-then-is_ne g c =
    let name = g.N.Labels.name in
    let a = c.args.self.now in
    let b = c.args.other.now in
    let m = low (name a.mname) in
    let n = low (name b.mname) in
    let x = wire (low (name a.rname)) ++ times_octets a.times in
    let y = wire (low (name b.rname)) ++ times_octets b.times in
    stops_here (slice_cmp nat_cmp (wire m ++ x) (wire n ++ y)) (slice_cmp nat_cmp (wire m) (wire n)) c.lowercase_composed_cmp-order.result (slice_cmp nat_cmp x y) c.is_ne.result
    (wire_then m n x y (no_root (name a.mname) c.label_count.ensures.name.labels) (no_root (name b.mname) c.label_count-2.ensures.name.labels))
    c.lowercase_composed_cmp-order.ensures c.is_ne.ensures c.if-is_ne.true

pub returns-then-is_ne-2 : goal.returns-then-is_ne-2
returns-then-is_ne-2 g c =
    let name = g.N.Labels.name in
    let a = c.args.self.now in
    let b = c.args.other.now in
    let m = low (name a.mname) in
    let n = low (name b.mname) in
    let k = low (name a.rname) in
    let l = low (name b.rname) in
    let s = times_octets a.times in
    let t = times_octets b.times in
    let whole = slice_cmp nat_cmp (wire m ++ (wire k ++ s)) (wire n ++ (wire l ++ t)) in
    let behind = slice_cmp nat_cmp (wire k ++ s) (wire l ++ t) in
    let on = goes_on whole (slice_cmp nat_cmp (wire m) (wire n)) c.lowercase_composed_cmp-order.result behind c.is_ne.result
    (wire_then m n (wire k ++ s) (wire l ++ t) (no_root (name a.mname) c.label_count.ensures.name.labels) (no_root (name b.mname) c.label_count-2.ensures.name.labels))
    c.lowercase_composed_cmp-order.ensures c.is_ne.ensures c.if-is_ne.false in
    stops_here whole (slice_cmp nat_cmp (wire k) (wire l)) c.lowercase_composed_cmp-order-2.result (slice_cmp nat_cmp s t) c.is_ne-2.result
    (on ∙ wire_then k l s t (no_root (name a.rname) c.label_count-3.ensures.name.labels) (no_root (name b.rname) c.label_count-4.ensures.name.labels))
    c.lowercase_composed_cmp-order-2.ensures c.is_ne-2.ensures c.if-is_ne-2.true

pub returns : goal.returns
returns g c =
    let name = g.N.Labels.name in
    let a = c.args.self.now in
    let b = c.args.other.now in
    let m = low (name a.mname) in
    let n = low (name b.mname) in
    let k = low (name a.rname) in
    let l = low (name b.rname) in
    let s = times_octets a.times in
    let t = times_octets b.times in
    let whole = slice_cmp nat_cmp (wire m ++ (wire k ++ s)) (wire n ++ (wire l ++ t)) in
    let behind = slice_cmp nat_cmp (wire k ++ s) (wire l ++ t) in
    let on = goes_on whole (slice_cmp nat_cmp (wire m) (wire n)) c.lowercase_composed_cmp-order.result behind c.is_ne.result
    (wire_then m n (wire k ++ s) (wire l ++ t) (no_root (name a.mname) c.label_count.ensures.name.labels) (no_root (name b.mname) c.label_count-2.ensures.name.labels))
    c.lowercase_composed_cmp-order.ensures c.is_ne.ensures c.if-is_ne.false in
    let rest = goes_on whole (slice_cmp nat_cmp (wire k) (wire l)) c.lowercase_composed_cmp-order-2.result (slice_cmp nat_cmp s t) c.is_ne-2.result
    (on ∙ wire_then k l s t (no_root (name a.rname) c.label_count-3.ensures.name.labels) (no_root (name b.rname) c.label_count-4.ensures.name.labels))
    c.lowercase_composed_cmp-order-2.ensures c.is_ne-2.ensures c.if-is_ne-2.false in
    c.cmp.ensures ∙ (λ i. slice_cmp nat_cmp (c.octets.ensures i) (c.octets-2.ensures i)) ∙ sym rest

use Rattle.std.proofs.Common.{[], ◌++◌, ◌∙◌, sym, ap, subst, append-nil}
use Rattle.std.specs.Ordering.{nat_cmp, ordering_then}
use Rattle.std.specs.Cmp.Lexicographic.{slice_cmp}
use Rattle.definitions.specs.Name.{low, wire}
use Rattle.plain.specs.Soa.{times_octets}
use Rattle.plain.proofs.Stripping.{some_behind}
use Rattle.names_rdata.proofs.WireOrder.{HasNoRoot, no_root, wire_then}
use Rattle.plain.proofs.zone_order.soa_with_ns.Goals as goal

pub returns : goal.returns
returns g c =
    let name = g.N.Labels.name in
    let soa = c.args.soa.now in
    let m = low (name soa.mname) in
    let n = low (name c.args.ns.now.nsdname) in
    let r = low (name soa.rname) in
    let t = times_octets soa.times in
    let P : g.row.N.Denot → Type 0 = λ x. HasNoRoot (low (name x)) in
    let first = subst P c.mname.ensures (no_root (name c.mname.result.now) c.label_count.ensures.name.labels) in
    let second = subst P c.nsdname.ensures (no_root (name c.nsdname.result.now) c.label_count-2.ensures.name.labels) in
    let names = c.lowercase_composed_cmp.ensures ∙ (λ i. slice_cmp nat_cmp (wire (low (name (c.mname-2.ensures i)))) (wire (low (name (c.nsdname-2.ensures i))))) in
    c.then.ensures ∙ (λ i. ordering_then (names i) (sym (some_behind r t) i))
    ∙ sym (wire_then m n (wire r ++ t) [] first second)
    ∙ ap (slice_cmp nat_cmp (wire m ++ (wire r ++ t))) (append-nil (wire n))

use Rattle.std.proofs.Common.{sym, ◌∙◌}
use Rattle.std.specs.Ordering.{ordering_then}
use Rattle.names_rdata.proofs.WireOrder.{wire_then}
use Rattle.denial_nsec_data.proofs.NextNames.{no_root}
use Rattle.denial_nsec_data.proofs.nsec.NsecCanonicalOrd.canonical_cmp.Goals as goal

pub returns : goal.returns
returns g c =
    let name = g.N.Labels.name in
    let a = c.self.inside in
    let b = c.other.inside in
    rw (← c.self.view_is, ← c.other.view_is) (
    c.then.ensures ∙ (λ i. ordering_then (c.composed_cmp-order.ensures i) (c.canonical_cmp.ensures i))
    ∙ sym (wire_then (name a.next_name) (name b.next_name) a.types b.types (no_root (name a.next_name) c.label_count.ensures.name.labels) (no_root (name b.next_name) c.label_count-2.ensures.name.labels))
    )

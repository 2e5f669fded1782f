use Rattle.std.proofs.Common.{◌∙◌, sym, ap}
use Rattle.std.specs.Ordering.{nat_cmp, ordering_reverse}
use Rattle.std.specs.Cmp.Lexicographic.{slice_cmp}
use Rattle.std.proofs.lemmas.Cmp.{nat_list_cmp_total}
use Rattle.plain.specs.Soa.{soa_canonical}
use Rattle.plain.specs.Ns.{ns_canonical}
use Rattle.plain.specs.ZoneData.{zone_canonical}
use Rattle.plain.proofs.zone_order.ZoneRecordDataCanonicalOrd.canonical_cmp.Goals as goal

pub returns-in-Ns-Soa : goal.returns-in-Ns-Soa
returns-in-Ns-Soa g c =
    let name = g.N.Labels.name in
    let d = c.in-Ns-Soa in
    c.reverse.ensures ∙ ap ordering_reverse c.soa_with_ns-in-Ns-Soa.ensures
    ∙ sym (nat_list_cmp_total.antisymm (ns_canonical name d.a) (soa_canonical name d.b))
    ∙ (λ i. slice_cmp nat_cmp (zone_canonical name (sym d.is-0 i)) (zone_canonical name (sym d.is-1 i)))

pub returns-in-Unknown-Soa : goal.returns-in-Unknown-Soa
returns-in-Unknown-Soa g c =
    let name = g.N.Labels.name in
    let d = c.in-Unknown-Soa in
    c.reverse-in-Unknown-Soa.ensures
    ∙ ap ordering_reverse (c.soa_with_octets-in-Unknown-Soa.ensures ∙ ap (slice_cmp nat_cmp (soa_canonical name d.b)) c.as_slice-in-Unknown-Soa.ensures.value)
    ∙ sym (nat_list_cmp_total.antisymm d.a.octets (soa_canonical name d.b))
    ∙ (λ i. slice_cmp nat_cmp (zone_canonical name (sym d.is-0 i)) (zone_canonical name (sym d.is-1 i)))

pub returns-in-Unknown-Ns : goal.returns-in-Unknown-Ns
returns-in-Unknown-Ns g c =
    let name = g.N.Labels.name in
    let d = c.in-Unknown-Ns in
    c.reverse-in-Unknown-Ns.ensures
    ∙ ap ordering_reverse (c.ns_with_octets-in-Unknown-Ns.ensures ∙ ap (slice_cmp nat_cmp (ns_canonical name d.b)) c.as_slice-in-Unknown-Ns.ensures.value)
    ∙ sym (nat_list_cmp_total.antisymm d.a.octets (ns_canonical name d.b))
    ∙ (λ i. slice_cmp nat_cmp (zone_canonical name (sym d.is-0 i)) (zone_canonical name (sym d.is-1 i)))

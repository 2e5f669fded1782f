use Rattle.std.proofs.Common.{[], ◌++◌, ◌∙◌, sym, ap, append-nil}
use Rattle.std.specs.Ordering.{nat_cmp}
use Rattle.std.specs.Cmp.Lexicographic.{slice_cmp}
use Rattle.definitions.specs.Name.{low, wire}
use Rattle.plain.proofs.Stripping.{same_front}
use Rattle.plain.proofs.zone_order.ns_with_octets.Goals as goal

pub returns-in-Ok : goal.returns-in-Ok
returns-in-Ok g c =
    let name = g.N.Labels.name in
    let n = wire (low (name c.args.ns.now.nsdname)) in
    let rest = c.in-Ok.rest.now in
    let first = c.in-Ok.ensures ∙ (λ i. wire (low (name (c.nsdname.ensures i))) ++ rest) in
    c.cmp.ensures ∙ ap (λ x. slice_cmp nat_cmp x rest) c.as_slice.ensures ∙ sym (same_front n [] rest)
    ∙ (λ i. slice_cmp nat_cmp (append-nil n i) (sym first i))

pub returns-in-Err : goal.returns-in-Err
returns-in-Err g c =
    let name = g.N.Labels.name in
    let octets = c.args.octets.now in
    sym (c.in-Err.ensures []) ∙ (λ i. slice_cmp nat_cmp (wire (low (name (c.nsdname.ensures i))) ++ []) octets)
    ∙ (λ i. slice_cmp nat_cmp (append-nil (wire (low (name c.args.ns.now.nsdname))) i) octets)

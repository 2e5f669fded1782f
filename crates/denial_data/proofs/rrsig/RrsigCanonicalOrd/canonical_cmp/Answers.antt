use Rattle.std.proofs.Common.{sym, ◌∙◌}
use Rattle.std.specs.Ordering.{nat_cmp, ordering_then}
use Rattle.std.specs.Cmp.Lexicographic.{slice_cmp}
use Rattle.denial_data.specs.RrsigData.{rrsig_with}
use Rattle.denial_data.proofs.Sizes.{rrsig_then}
use Rattle.denial_data.proofs.rrsig.RrsigCanonicalOrd.canonical_cmp.Goals as goal

pub returns : goal.returns
returns g c =
    let a = rrsig_with c.self.inside.proto c.self.inside.signature in
    let b = rrsig_with c.other.inside.proto c.other.inside.signature in
    rw (← c.self.view_is, ← c.other.view_is) (
    c.then.ensures
    ∙ (λ i. ordering_then ((c.then-order.ensures ∙ (λ j. ordering_then ((c.cmp-order.ensures ∙ (λ k. slice_cmp nat_cmp ((c.as_slice.ensures ∙ c.octets.ensures) k) ((c.as_slice-2.ensures ∙ c.octets-2.ensures) k))) j) (c.lowercase_composed_cmp.ensures j))) i) (c.cmp.ensures i))
    ∙ sym (rrsig_then g.N.Labels.name a b c.label_count.ensures.name.labels c.label_count-2.ensures.name.labels)
    )

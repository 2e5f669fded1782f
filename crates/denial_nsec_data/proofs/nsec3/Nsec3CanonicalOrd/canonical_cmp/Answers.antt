use Rattle.std.proofs.Common.{sym, ◌∙◌}
use Rattle.std.specs.Ordering.{ordering_then}
use Rattle.denial_nsec_data.specs.Hashed.{Nsec3Data}
use Rattle.denial_nsec_data.proofs.HashedOrder.{nsec3_then}
use Rattle.denial_nsec_data.proofs.nsec3.Nsec3CanonicalOrd.canonical_cmp.Goals as goal

pub returns : goal.returns
returns g c =
    let a : Nsec3Data = record { params = c.self.inside.params; next_owner = c.self.inside.next_owner; types = c.self.inside.types } in
    let b : Nsec3Data = record { params = c.other.inside.params; next_owner = c.other.inside.next_owner; types = c.other.inside.types } in
    rw (← c.self.view_is, ← c.other.view_is) (
    c.then.ensures
    ∙ (λ i. ordering_then ((c.then-order.ensures ∙ (λ j. ordering_then (c.canonical_cmp-order.ensures j) (c.canonical_cmp.ensures j))) i) (c.canonical_cmp-2.ensures i))
    ∙ sym (nsec3_then a b)
    )

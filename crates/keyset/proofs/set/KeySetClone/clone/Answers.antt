use Rattle.std.proofs.Common.{◌∙◌}
use Rattle.keyset.proofs.KeyMaps.{by_kind-alike, by_reference-alike}
use Rattle.keyset.proofs.set.KeySetClone.clone.Goals as goal

pub returns : goal.returns
returns c =
    let keys = by_reference-alike c.self.inside.keys.entries c.in_ok-clone.field-0.entries c.in_ok-clone.ensures.cases in
    let rolls = by_kind-alike c.self.inside.rollstates.entries c.in_ok-clone-2.field-0.entries c.in_ok-clone-2.ensures.cases in
    record { cases = (λ t. record { name = c.in-Ok.ensures t; keys = keys t; rolls = rolls t }) ∙ c.self.view_is }

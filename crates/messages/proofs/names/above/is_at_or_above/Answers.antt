use Rattle.std.proofs.Common.{◌∙◌}
use Rattle.definitions.specs.Name.{at_or_above}
use Rattle.names_flat.proofs.Stripped.{at_or_above-rooted}
use Rattle.messages.proofs.names.above.is_at_or_above.Goals as goal

pub returns : goal.returns
returns g c =
    let b = c.args.base.now in
    let n = c.args.name.now in
    c.ends_with.ensures ∙ (λ i. at_or_above (g.met.B.Absolute.rooted b i) (g.met.N.Absolute.rooted n i)) ∙ at_or_above-rooted (g.B.Labels.name b) (g.N.Labels.name n)

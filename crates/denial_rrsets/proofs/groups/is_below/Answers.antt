use Rattle.std.proofs.Common.{[], ◌∷◌, ◌++◌, ap, ◌∙◌}
use Rattle.definitions.specs.Name.{at_or_above}
use Rattle.names_labels.specs.Flat.{labels_in}
use Rattle.names_flat.proofs.Stripped.{at_or_above-rooted}
use Rattle.denial_rrsets.proofs.groups.is_below.Goals as goal

pub returns : goal.returns
returns g c =
    let apex = g.N.Labels.name c.args.apex.now in
    let name = g.N.Labels.name c.args.name.now in
    c.ends_with.ensures ∙ ap (λ m. at_or_above m (g.N.Labels.labels c.args.name.now)) (g.met.N.Absolute.rooted c.args.apex.now)
    ∙ ap (at_or_above (apex ++ [] ∷ [])) (g.met.N.Absolute.rooted c.args.name.now)
    ∙ at_or_above-rooted apex name

pub returns-in-Some-Some : goal.returns-in-Some-Some
returns-in-Some-Some g c =
    let apex = g.N.Labels.name c.args.apex.now in
    let name = g.N.Labels.name c.args.name.now in
    c.row_ends_with.ensures ∙ ap (λ m. at_or_above m (labels_in c.in-Some-Some.run'.now)) (c.in-Some-Some.ensures'.row.labels ∙ g.met.N.Absolute.rooted c.args.apex.now)
    ∙ ap (at_or_above (apex ++ [] ∷ [])) (c.in-Some-Some.ensures.row.labels ∙ g.met.N.Absolute.rooted c.args.name.now)
    ∙ at_or_above-rooted apex name

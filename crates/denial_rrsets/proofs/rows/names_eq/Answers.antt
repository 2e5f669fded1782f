use Rattle.std.proofs.Common.{[], ◌∷◌, ◌++◌, ap, ◌∙◌}
use Rattle.definitions.specs.Name.{same}
use Rattle.names_labels.specs.Flat.{labels_in}
use Rattle.names_labels.proofs.Rooted.{same-rooted}
use Rattle.denial_rrsets.proofs.rows.names_eq.Goals as goal

pub returns-in-Some-Some : goal.returns-in-Some-Some
returns-in-Some-Some g c =
    let name = g.N.Labels.name c.args.name.now in
    let other = g.N.Labels.name c.args.other.now in
    c.rows_eq.ensures ∙ ap (λ m. same m (labels_in c.in-Some-Some.beside.now)) (c.in-Some-Some.ensures.row.labels ∙ g.met.N.Absolute.rooted c.args.name.now)
    ∙ ap (same (name ++ [] ∷ [])) (c.in-Some-Some.ensures'.row.labels ∙ g.met.N.Absolute.rooted c.args.other.now)
    ∙ same-rooted name other

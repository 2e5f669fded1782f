use Rattle.std.proofs.Common.{◌∙◌}
use Rattle.definitions.specs.Name.{same}
use Rattle.names_labels.proofs.Rooted.{same-rooted}
use Rattle.names_traits.proofs.to_name.ToName.name_eq.Goals as goal

pub returns : goal.returns
returns g c =
    c.labels_eq.ensures ∙ (λ t. same (g.met.Self.Absolute.rooted c.args.self.now t) (g.met.N.Absolute.rooted c.args.other.now t))
    ∙ same-rooted (g.Self.Labels.name c.args.self.now) (g.N.Labels.name c.args.other.now)

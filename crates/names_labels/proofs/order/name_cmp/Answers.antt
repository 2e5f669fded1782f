use Rattle.std.proofs.Common.{◌∙◌}
use Rattle.names_wire.specs.Name.{name_cmp}
use Rattle.names_labels.proofs.Rooted.{name_cmp-rooted}
use Rattle.names_labels.proofs.order.name_cmp.Goals as goal

pub returns : goal.returns
returns g c =
    c.labels_cmp.ensures ∙ (λ t. name_cmp (g.met.A.Absolute.rooted c.args.name.now t) (g.met.B.Absolute.rooted c.args.other.now t))
    ∙ name_cmp-rooted (g.A.Labels.name c.args.name.now) (g.B.Labels.name c.args.other.now)

use Rattle.std.proofs.Common.{◌∙◌, map}
use Rattle.std.specs.Ordering.{nat_cmp}
use Rattle.std.specs.Cmp.Lexicographic.{slice_cmp}
use Rattle.names_labels.specs.Flat.{spelled}
use Rattle.names_labels.specs.Order.{in_case}
use Rattle.names_labels.specs.declared.order.Case.TheVariants.{Lowered}
use Rattle.names_labels.proofs.Composed.{spelled-lowered}
use Rattle.names_labels.proofs.order.lowercase_composed_cmp.Goals as goal

pub returns : goal.returns
returns g c =
    c.labels_composed_cmp.ensures
    ∙ (λ t. slice_cmp nat_cmp (spelled (map (in_case Lowered) (g.met.A.Absolute.rooted c.args.name.now t))) (spelled (map (in_case Lowered) (g.met.B.Absolute.rooted c.args.other.now t))))
    ∙ (λ t. slice_cmp nat_cmp (spelled-lowered (g.A.Labels.name c.args.name.now) t) (spelled-lowered (g.B.Labels.name c.args.other.now) t))

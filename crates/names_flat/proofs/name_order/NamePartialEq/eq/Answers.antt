use Rattle.std.proofs.Common.{◌∙◌}
use Rattle.names_labels.proofs.Rooted.{same-rooted}
use Rattle.names_flat.proofs.name_order.NamePartialEq.eq.Goals as goal

pub returns : goal.returns
returns g c = c.labels_eq.ensures ∙ same-rooted c.args.self.now c.args.other.now

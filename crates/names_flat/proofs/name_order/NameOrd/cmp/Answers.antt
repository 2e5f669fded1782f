use Rattle.std.proofs.Common.{◌∙◌}
use Rattle.names_labels.proofs.Rooted.{name_cmp-rooted}
use Rattle.names_flat.proofs.name_order.NameOrd.cmp.Goals as goal

pub returns : goal.returns
returns g c = c.labels_cmp.ensures ∙ name_cmp-rooted c.args.self.now c.args.other.now

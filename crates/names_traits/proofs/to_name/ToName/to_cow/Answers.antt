use Rattle.std.proofs.Common.{◌∙◌}
use Rattle.names_labels.proofs.Checks.{spells_flat}
use Rattle.names_labels.proofs.Rooted.{row_spells}
use Rattle.names_traits.proofs.to_name.ToName.to_cow.Goals as goal

pub borrowed-requires : goal.borrowed-requires
borrowed-requires g c =
    let n = g.Self.Labels.name c.args.self.now in
    let r = c.in-Some.ensures.row in
    spells_flat c.in-Some.row.now n (row_spells c.in-Some.row.now n r.run (r.labels ∙ g.met.Self.Absolute.rooted c.args.self.now) c.in-Some.ensures.name)

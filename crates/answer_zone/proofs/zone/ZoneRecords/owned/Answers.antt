use Rattle.std.proofs.Common.{ap, ◌∙◌}
use Rattle.answer_zone_records.specs.OwnedRecords.{owned_by}
use Rattle.answer_zone.proofs.zone.ZoneRecords.owned.Goals as goal

pub returns : goal.returns
returns g c = c.found.ensures ∙ ap (λ z. owned_by (g.O.Labels.name c.args.name.now) z.records) c.self.view_is

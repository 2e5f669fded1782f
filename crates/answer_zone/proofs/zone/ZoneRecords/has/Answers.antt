use Rattle.std.proofs.Common.{ap, ◌∙◌}
use Rattle.std.specs.List.{list_any}
use Rattle.answer_zone_records.specs.OwnedRecords.{is_of_type}
use Rattle.answer_zone.proofs.Placing.{has_owned}
use Rattle.answer_zone.proofs.zone.ZoneRecords.has.Goals as goal

pub returns : goal.returns
returns g c = c.has.ensures ∙ ap (list_any (is_of_type c.args.rtype)) c.owned.ensures ∙ has_owned c.args.self.now.apex c.args.self.now.records c.args.name.now c.args.rtype

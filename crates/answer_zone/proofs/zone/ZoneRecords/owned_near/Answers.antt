use Rattle.std.proofs.Common.{sym, ◌∙◌}
use Rattle.answer_zone_records.proofs.OwnedFacts.{none_owned}
use Rattle.answer_zone.proofs.zone.ZoneRecords.owned_near.Goals as goal

pub returns-else-owns : goal.returns-else-owns
returns-else-owns g c = c.none.ensures ∙ sym (none_owned c.args.name.now c.args.self.now.records (c.requires.owns ∙ sym c.owns.ensures ∙ c.if-owns.false))

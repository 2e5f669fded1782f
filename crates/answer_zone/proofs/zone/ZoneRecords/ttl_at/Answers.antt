use Rattle.std.proofs.Common.{ap, ◌∙◌}
use Rattle.std.specs.List.{find}
use Rattle.answer_zone_records.specs.OwnedRecords.{is_of_type, ttl_in}
use Rattle.answer_zone_records.proofs.OwnedFacts.{ttl_owned}
use Rattle.answer_zone.proofs.zone.ZoneRecords.ttl_at.Goals as goal

pub returns : goal.returns
returns g c = c.ttl.ensures ∙ ap (λ os. ttl_in (find (is_of_type c.args.rtype) os)) c.owned.ensures ∙ ttl_owned c.args.name.now c.args.rtype c.args.self.now.records

use Rattle.std.proofs.Common.{◌∙◌}
use Rattle.messages.specs.HandedRr.{handed_of}
use Rattle.answer_zone_records.specs.OwnedRecords.{is_of_type}
use Rattle.answer_zone_records.proofs.OwnedFacts.{has_first}
use Rattle.answer_zone_records.proofs.owned.Owned.has.Goals as goal

pub returns : goal.returns
returns c = c.is_some.ensures ∙ has_first (λ r. handed_of r.now) (is_of_type c.args.rtype) c.args.self.now c.first.result c.first.ensures

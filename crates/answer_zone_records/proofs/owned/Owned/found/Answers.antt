use Rattle.answer_zone_records.proofs.OwnedFacts.{found_is}
use Rattle.answer_zone_records.proofs.owned.Owned.found.Goals as goal

pub returns : goal.returns
returns g c = found_is (g.O.Labels.name c.args.name.now) c.args.records.now c.find_owner.result c.requires c.find_owner.ensures

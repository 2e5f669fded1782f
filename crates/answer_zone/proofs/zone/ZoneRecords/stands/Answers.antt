use Rattle.std.proofs.Common.{◌&&◌, sym, ap, ◌∙◌}
use Rattle.definitions.specs.Name.{at_or_above}
use Rattle.definitions.proofs.ZoneNames.{above_itself}
use Rattle.answer_zone_records.specs.Near.{shows}
use Rattle.answer_zone.proofs.zone.ZoneRecords.stands.Goals as goal

pub returns : goal.returns
returns g c =
    let z = c.args.self.now in
    let n = c.args.name.now in
    c.is_shown.ensures ∙ ap (λ z. at_or_above z.apex n && shows c.args.near.now n) c.self.view_is ∙ ap (λ b. at_or_above z.apex n && b) (sym (c.requires.shows n (above_itself n)))

use Rattle.std.proofs.Common.{◌∙◌, sym}
use Rattle.answer_zone_records.proofs.Neighboured.{below}
use Rattle.answer_zone_records.proofs.near.has_below.Goals as goal

pub returns : goal.returns
returns g c =
    let p = c.place_behind in
    c.is_strictly_below.ensures ∙ sym (below g.T.Named.name_of c.args.items.now c.args.name.now p.result c.requires p.ensures.cut c.name_at.result c.name_at.ensures)

use Rattle.std.proofs.Common.{sym, subst, arith}
use Rattle.answer_zone_records.proofs.Neighboured.{Before, none_before, one_before, owned, shown}
use Rattle.answer_zone_records.proofs.near.neighbours_of.Goals as goal
use Rattle.answer_zone_records.proofs.near.neighbours_of.Goals.{then-place-gt0, else-place-gt0}

pub returns-clause-shows : goal.returns-clause-shows
returns-clause-shows g c = λ a h.
    let p = c.place_of-place in
    let B = Before g.T.Named.name_of c.args.items.now c.args.name.now p.result c.requires p.ensures.bound p.ensures.cut in
    let before : B c.if-place-gt0.before = elim c.if-place-gt0.branch [
      | then-place-gt0 w ↦ subst B (sym w.before-is) (one_before g.T.Named.name_of c.args.items.now c.args.name.now p.result c.requires p.ensures.bound p.ensures.cut w.if-place-gt0.true w.name_at-before.result w.name_at-before.ensures)
      | else-place-gt0 w ↦ subst B (sym w.before-is) (none_before g.T.Named.name_of c.args.items.now c.args.name.now p.result c.requires p.ensures.bound p.ensures.cut (omega (arith, w.if-place-gt0.false)))
    ] in
    shown g.T.Named.name_of c.args.items.now c.args.name.now p.result c.requires p.ensures.bound p.ensures.cut c.if-place-gt0.before c.name_at.result before c.name_at.ensures a h

pub returns-clause-owns : goal.returns-clause-owns
returns-clause-owns g c =
    let p = c.place_of-place in
    owned g.T.Named.name_of c.args.items.now c.args.name.now p.result c.requires p.ensures.bound p.ensures.cut c.name_at.result c.name_at.ensures

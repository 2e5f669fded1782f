use Rattle.std.proofs.Common.{◌<◌, length, rules, sym, ◌∙◌, arith}
use Rattle.std.specs.Prelude.{None}
use Rattle.answer_judge_octets.specs.Written.{Splits}
use Rattle.answer_judge_octets.proofs.ListsRead.{not_spelled}
use Rattle.answer_judge_octets.proofs.list.read_list.Goals as goal

pub returns-in_default : goal.returns-in_default
returns-in_default g c =
    let e = g.E.Written in
    let unread : Splits e.fits e.written c.loop-rest.rest.now None = search rules in
    let long : 0 < length c.loop-rest.rest.now = grind arith in
    λ others spells.
    not_spelled e.fits e.written e.once e.some c.loop-rest.items.items others c.loop-rest.rest.now long unread c.loop-rest.invariant.0 spells.fit
    (sym c.loop-rest.invariant.1 ∙ spells.octets_are)

use Rattle.std.proofs.Common.{map, subst}
use Rattle.messages.specs.HandedRr.{handed_of}
use Rattle.answer_zone_records.proofs.Rrsets.{Taking, taken_all}
use Rattle.answer_zone_records.proofs.owned.rrset_of.Goals as goal

pub returns : goal.returns
returns c =
    taken_all c.args.own c.args.rtype (map handed_of c.args.owner.now) c.loop-rr.found.items c.loop-rr.canonical.items
    (subst (λ rs. Taking c.args.own c.args.rtype (map handed_of c.args.owner.now) (map handed_of rs) c.loop-rr.found.items c.loop-rr.canonical.items) c.in_default.ensures.steps.0 c.loop-rr.invariant)

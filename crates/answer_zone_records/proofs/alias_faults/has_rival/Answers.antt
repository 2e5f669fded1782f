use Rattle.std.proofs.Common.{None, Some, map, ap, ◌∙◌}
use Rattle.std.specs.List.{list_any}
use Rattle.messages.specs.HandedRr.{handed_of}
use Rattle.answer_zone_records.specs.AliasFaults.{rivals}
use Rattle.answer_zone_records.specs.OwnedRecords.{owned_by}
use Rattle.answer_zone_records.proofs.OwnedFacts.{found_is}
use Rattle.answer_zone_records.proofs.alias_faults.has_rival.Goals as goal

pub returns-in-Some : goal.returns-in-Some
returns-in-Some c =
    c.is_rivalled.ensures
    ∙ ap (list_any (rivals c.args.apex.now (handed_of c.args.rr.now))) (found_is c.owner.result.now c.args.records.now (Some c.in-Some.owner) c.requires c.in-Some.ensures ∙ ap (λ q. owned_by q (map handed_of c.args.records.now)) c.owner.ensures)

pub returns-in-None : goal.returns-in-None
returns-in-None c =
    ap (list_any (rivals c.args.apex.now (handed_of c.args.rr.now))) (found_is c.owner.result.now c.args.records.now None c.requires c.in-None.ensures ∙ ap (λ q. owned_by q (map handed_of c.args.records.now)) c.owner.ensures)

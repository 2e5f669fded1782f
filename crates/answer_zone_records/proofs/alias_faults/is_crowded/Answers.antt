use Rattle.std.proofs.Common.{map, ap, sym, ◌∙◌, ◌||◌}
use Rattle.std.specs.List.{list_any}
use Rattle.messages.specs.HandedRr.{handed_of}
use Rattle.answer_zone_records.specs.AliasFaults.{is_below_dname}
use Rattle.answer_zone_records.proofs.Disorder.{crowded}
use Rattle.answer_zone_records.proofs.alias_faults.is_crowded.Goals as goal

pub returns-then-has_rival : goal.returns-then-has_rival
returns-then-has_rival c =
    let r = handed_of c.args.rr.now in
    let rs = map handed_of c.args.records.now in
    c.if-has_rival.true ∙ sym (ap (λ b. b || list_any (is_below_dname r) rs) (sym c.has_rival.ensures ∙ c.if-has_rival.true)) ∙ sym (crowded c.args.apex.now r rs)

pub returns-else-has_rival : goal.returns-else-has_rival
returns-else-has_rival c =
    let r = handed_of c.args.rr.now in
    let rs = map handed_of c.args.records.now in
    c.has_below_dname.ensures ∙ sym (ap (λ b. b || list_any (is_below_dname r) rs) (sym c.has_rival.ensures ∙ c.if-has_rival.false)) ∙ sym (crowded c.args.apex.now r rs)

use Rattle.std.proofs.Common.{◌+◌, map, drop, ap, sym, ◌∙◌}
use Rattle.std.specs.Prelude.{◌&&◌}
use Rattle.std.specs.List.{list_all}
use Rattle.std.proofs.lemmas.List.{drop_all}
use Rattle.messages.specs.HandedRr.{handed_of}
use Rattle.messages.proofs.Lists.{items_from}
use Rattle.messages_canonical.specs.InForm.{is_record_in_form}
use Rattle.messages_canonical.proofs.records.are_records_in_form.Goals as goal

pub loop-record-preserved : goal.loop-record-preserved
loop-record-preserved c =
    let rs = c.args.records.now in
    let r = c.record-item.result in
    let rest = drop (c.loop-record.record-index + 1) rs in
    let is = sym c.in_ok-is_record_in_form.ensures ∙ c.if-not-branch.false in
    c.loop-record.invariant ∙ ap (λ l. list_all is_record_in_form (map handed_of l)) (items_from rs c.loop-record.record-index r c.loop-record-test.true c.record-item.is)
    ∙ ap (λ b. b && list_all is_record_in_form (map handed_of rest)) is

pub returns-then-not-branch : goal.returns-then-not-branch
returns-then-not-branch c =
    let rs = c.args.records.now in
    let r = c.record-item.result in
    let rest = drop (c.loop-record.record-index + 1) rs in
    let is = sym c.in_ok-is_record_in_form.ensures ∙ c.if-not-branch.true in
    sym (c.loop-record.invariant ∙ ap (λ l. list_all is_record_in_form (map handed_of l)) (items_from rs c.loop-record.record-index r c.loop-record-test.true c.record-item.is)
    ∙ ap (λ b. b && list_all is_record_in_form (map handed_of rest)) is)

pub returns : goal.returns
returns c =
    let none = drop_all c.loop-record.record-index c.args.records.now c.loop-record-test.false in
    sym (c.loop-record.invariant ∙ ap (λ l. list_all is_record_in_form (map handed_of l)) none)

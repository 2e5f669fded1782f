use Rattle.std.proofs.Common.{◌≡◌, ◌==◌, true, false, rules, sym, ◌∙◌}
use Rattle.messages.specs.Record.{spelled}
use Rattle.answer_judge_keys.specs.Trusted.{is_signature}
use Rattle.answer_extended_errors.specs.Groups.{is_among}
use Rattle.answer_extended_errors.proofs.OverGroups.{signature_is}
use Rattle.answer_extended_errors.proofs.times.signature_over.Goals as goal

pub returns-then-not-is_signed_by : goal.returns-then-not-is_signed_by
returns-then-not-is_signed_by c =
    let r = spelled c.args.view.now in
    let kind : is_signature r ≡ true = search rules in
    let class : (r.class == 1) ≡ true = search rules in
    signature_is c.args.message.now c.args.apex.now (is_among c.args.groups.now) r c.in_ok-signature.signature true false kind class (sym c.in_ok-signature.ensures)
    (sym c.if-not-is_over_one.false ∙ c.is_over_one.ensures) (sym c.if-not-is_signed_by.true ∙ c.is_signed_by.ensures)

pub returns : goal.returns
returns c =
    let r = spelled c.args.view.now in
    let kind : is_signature r ≡ true = search rules in
    let class : (r.class == 1) ≡ true = search rules in
    signature_is c.args.message.now c.args.apex.now (is_among c.args.groups.now) r c.in_ok-signature.signature true true kind class (sym c.in_ok-signature.ensures)
    (sym c.if-not-is_over_one.false ∙ c.is_over_one.ensures) (sym c.if-not-is_signed_by.false ∙ c.is_signed_by.ensures)

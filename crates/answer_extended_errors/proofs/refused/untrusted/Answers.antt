use Rattle.std.proofs.Common.{◌≡◌, map, ap, subst, ◌∙◌}
use Rattle.std.specs.Prelude.{IfOk, None, Some}
use Rattle.definitions.specs.Limits.{pointer_limit}
use Rattle.messages.specs.Record.{spelled}
use Rattle.answer_judge.specs.Judging.{JudgeInput}
use Rattle.answer_extended_errors.specs.Extended.{records_in, untrusted_keys}
use Rattle.answer_extended_errors.proofs.RefusalErrors.{keys_read, keys_unread}
use Rattle.answer_extended_errors.proofs.refused.untrusted.Goals as goal

pub returns-in_default-clause-exact : goal.returns-in_default-clause-exact
returns-in_default-clause-exact g c =
    let h = c.args.case.now in
    let is = c.case.view_is in
    let none : None ≡ records_in pointer_limit h.dnskey_bytes = rw c.in_default.is at c.in_ok-records.ensures.exact ∙ ap (λ (h : JudgeInput). records_in pointer_limit h.dnskey_bytes) is in
    keys_unread (g.C.Checks.answers c.args.check_run.now.checks.now) pointer_limit h none

pub returns-clause-exact : goal.returns-clause-exact
returns-clause-exact g c =
    let a = g.C.Checks.answers c.args.check_run.now.checks.now in
    let h = c.args.case.now in
    let is = c.case.view_is in
    let moment = c.timestamp-moment.ensures ∙ ap (λ (h : JudgeInput). h.now) is in
    let rs = map spelled c.in-Some.records.items in
    let whole = ap (map spelled) c.deref.ensures.value in
    let read : Some rs ≡ records_in pointer_limit h.dnskey_bytes = rw c.in-Some.is at c.in_ok-records.ensures.exact ∙ ap (λ (h : JudgeInput). records_in pointer_limit h.dnskey_bytes) is in
    let path = (λ i. untrusted_keys a pointer_limit (is i).apex (is i).ds (is i).dnskey_bytes (whole i) (moment i)) ∙ keys_read a pointer_limit h rs read in
    subst (λ x. IfOk c.untrusted_keys.result (λ e. e ≡ x)) path c.untrusted_keys.ensures.exact

use Rattle.std.proofs.Common.{rules, ◌≡◌, ◌⊎◌, inl, inr, ⊎_elim, ap, subst, ◌∙◌}
use Rattle.std.specs.Prelude.{IfOk, Some}
use Rattle.definitions.specs.Limits.{pointer_limit}
use Rattle.answer_scheme.specs.Answers.{Answers, with_test}
use Rattle.answer_judge.specs.Stages.{are_signed}
use Rattle.answer_judge.proofs.JudgedWholly.{agrees_too}
use Rattle.answer_judge_facts.proofs.JudgeAsked.{agreed_by}
use Rattle.answer_verified_records.specs.Records.{messages_in, verified_in_messages}
use Rattle.answer_verified_records.proofs.BesideVerdict.{keys_are_signed}
use Rattle.answer_verified_records.proofs.SigningKeys.{looked_at}
use Rattle.answer_verified_records.proofs.records.records_beside_verdict.Goals as goal

pub usable_in_messages-requires-clause-signed : goal.usable_in_messages-requires-clause-signed
usable_in_messages-requires-clause-signed g c = λ test fits.
    let h = c.args.case.now in
    let keys = c.in-Some.messages.keys.view in
    let answer = c.in-Some.messages.answer.view in
    let checks = c.new-check_run.ensures.checks in
    let some : Some (keys, answer) ≡ messages_in pointer_limit h = rw c.in-Some.is at c.in_ok-messages.ensures.exact in
    let read = rw c.in-Some.is at c.in_ok-messages.ensures.read in
    let first = subst (λ x. (test ≡ (g.C.Checks.answers x).verifies) ⊎ g.C.Checks.agrees x test) checks fits in
    let signed = keys_are_signed (with_test (g.C.Checks.answers c.args.checks.now) test) pointer_limit h keys answer (c.requires.says test first) some read.keys in
    (λ i. are_signed (with_test (g.C.Checks.answers (checks i)) test) pointer_limit h keys.records (read.tagged i)) ∙ signed

pub returns-clause-exact : goal.returns-clause-exact
returns-clause-exact g c = λ test fits.
    let own = g.C.Checks.answers c.args.checks.now in
    let h = c.args.case.now in
    let now = c.usable_in_messages.new.check_run.checks.now in
    let fit : (test ≡ own.verifies) ⊎ g.C.Checks.agrees now test = ⊎_elim (λ e. inl e) (λ agrees. inr (agrees_too g.C.Checks.agrees _ now test agrees (search rules))) fits in
    let same = ap g.C.Checks.answers c.new-check_run.ensures.checks in
    let keys = c.in-Some.messages.keys.view in
    let answer = c.in-Some.messages.answer.view in
    let some : Some (keys, answer) ≡ messages_in pointer_limit h = rw c.in-Some.is at c.in_ok-messages.ensures.exact in
    let path = ap (λ (x : Answers). verified_in_messages (with_test x test) pointer_limit h keys answer) same ∙ looked_at (with_test own test) pointer_limit h keys answer some in
    subst (λ x. IfOk c.usable_in_messages.result (λ v. v.items ≡ x)) path (c.usable_in_messages.ensures.exact test (agreed_by own _ test _ same fit))

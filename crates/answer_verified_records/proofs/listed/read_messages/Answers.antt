use Rattle.std.proofs.Common.{◌≡◌, ap, ◌∙◌}
use Rattle.std.specs.Prelude.{None, Some}
use Rattle.std.specs.Result.{result_ok}
use Rattle.definitions.specs.Limits.{pointer_limit}
use Rattle.messages.specs.Message.{message}
use Rattle.answer_judge.specs.Judging.{JudgeInput}
use Rattle.answer_verified_records.proofs.ReadCase.{no_answer, no_keys, ok_from}
use Rattle.answer_verified_records.proofs.listed.read_messages.Goals as goal

pub returns-in_default-clause-exact : goal.returns-in_default-clause-exact
returns-in_default-clause-exact c =
    let h = c.args.case.now in
    let is = c.case.view_is in
    let none : None ≡ result_ok (message pointer_limit h.dnskey_bytes) = rw c.in_default.is at c.in_ok-keys.ensures.exact ∙ ap (λ (h : JudgeInput). result_ok (message pointer_limit h.dnskey_bytes)) is in
    no_keys pointer_limit h none

pub returns-in_default-2-clause-exact : goal.returns-in_default-2-clause-exact
returns-in_default-2-clause-exact c =
    let h = c.args.case.now in
    let is = c.case.view_is in
    let keys = c.in-Some.keys.view in
    let first : Some keys ≡ result_ok (message pointer_limit h.dnskey_bytes) = rw c.in-Some.is at c.in_ok-keys.ensures.exact ∙ ap (λ (h : JudgeInput). result_ok (message pointer_limit h.dnskey_bytes)) is in
    let none : None ≡ result_ok (message pointer_limit h.answer_bytes) = rw c.in_default-2.is at c.in_ok-answer.ensures.exact ∙ ap (λ (h : JudgeInput). result_ok (message pointer_limit h.answer_bytes)) is in
    no_answer pointer_limit h keys (ok_from (message pointer_limit h.dnskey_bytes) keys first) none

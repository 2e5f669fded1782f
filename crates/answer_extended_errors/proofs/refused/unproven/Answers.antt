use Rattle.std.proofs.Common.{◌≡◌, filter, length, map, ap, subst, ◌∙◌, arith}
use Rattle.std.specs.Prelude.{IfOk, IfSome, None, Some}
use Rattle.definitions.specs.Limits.{pointer_limit}
use Rattle.messages.specs.Record.{spelled}
use Rattle.answer_scheme.specs.Answers.{with_test}
use Rattle.answer_judge.specs.Judging.{JudgeInput, signatures_in}
use Rattle.answer_judge_keys.specs.DnskeyAnswer.{keys_in}
use Rattle.answer_judge_keys.specs.Trusted.{is_signature, is_usable}
use Rattle.answer_judge_facts.specs.Verified.{Trusting}
use Rattle.answer_extended_errors.specs.Extended.{records_in, unproven_under}
use Rattle.answer_extended_errors.proofs.RefusalErrors.{both_read, no_answer, no_keys, signatures_read}
use Rattle.answer_extended_errors.proofs.refused.unproven.Goals as goal

pub returns-in_default-clause-exact : goal.returns-in_default-clause-exact
returns-in_default-clause-exact g c = λ test fits.
    let a = with_test (g.C.Checks.answers c.args.check_run.now.checks.now) test in
    let h = c.args.case.now in
    let is = c.case.view_is in
    let none : None ≡ records_in pointer_limit h.dnskey_bytes = rw c.in_default.is at c.in_ok-key_records.ensures.exact ∙ ap (λ (h : JudgeInput). records_in pointer_limit h.dnskey_bytes) is in
    no_keys a pointer_limit h none

pub returns-in_default-2-clause-exact : goal.returns-in_default-2-clause-exact
returns-in_default-2-clause-exact g c = λ test fits.
    let a = with_test (g.C.Checks.answers c.args.check_run.now.checks.now) test in
    let h = c.args.case.now in
    let is = c.case.view_is in
    let keys = map spelled c.in-Some.key_records.items in
    let first : Some keys ≡ records_in pointer_limit h.dnskey_bytes = rw c.in-Some.is at c.in_ok-key_records.ensures.exact ∙ ap (λ (h : JudgeInput). records_in pointer_limit h.dnskey_bytes) is in
    let none : None ≡ records_in pointer_limit h.answer_bytes = rw c.in_default-2.is at c.in_ok-records.ensures.exact ∙ ap (λ (h : JudgeInput). records_in pointer_limit h.answer_bytes) is in
    no_answer a pointer_limit h keys first none

pub unproven_under-requires : goal.unproven_under-requires
unproven_under-requires g c =
    let few = rw c.in-Some-2.is at c.in_ok-records.ensures.few in
    record { room = omega (arith, c.requires, few, ap length c.deref-3.ensures.value) }

pub returns-clause-exact : goal.returns-clause-exact
returns-clause-exact g c = λ test fits.
    let a = with_test (g.C.Checks.answers c.args.check_run.now.checks.now) test in
    let h = c.args.case.now in
    let is = c.case.view_is in
    let moment = c.timestamp.ensures ∙ ap (λ (h : JudgeInput). h.now) is in
    let keys = map spelled c.in-Some.key_records.items in
    let rs = map spelled c.in-Some-2.records.items in
    let first : Some keys ≡ records_in pointer_limit h.dnskey_bytes = rw c.in-Some.is at c.in_ok-key_records.ensures.exact ∙ ap (λ (h : JudgeInput). records_in pointer_limit h.dnskey_bytes) is in
    let second : Some rs ≡ records_in pointer_limit h.answer_bytes = rw c.in-Some-2.is at c.in_ok-records.ensures.exact ∙ ap (λ (h : JudgeInput). records_in pointer_limit h.answer_bytes) is in
    let spelled_keys : c.in_ok-read_keys.field-0.items ≡ keys_in h.dnskey_bytes h.apex keys = c.in_ok-read_keys.ensures ∙ (λ i. keys_in (is i).dnskey_bytes (is i).apex (map spelled (c.deref.ensures.value i))) in
    let usable = c.in_ok-index.ensures ∙ c.deref-2.ensures.value ∙ c.usable_keys-keys.ensures ∙ ap (filter is_usable) spelled_keys in
    let whole = ap (map spelled) c.deref-3.ensures.value in
    let path = (λ i. let w : Trusting = record { answers = a; apex = (is i).apex; keys = usable i; now = moment i } in unproven_under w pointer_limit (is i).answer_bytes (whole i) (is i).asked) ∙ both_read a pointer_limit h keys rs first second in
    subst (λ x. IfOk c.unproven_under.result (λ e. e ≡ x)) path (c.unproven_under.ensures.exact test fits)

pub returns-clause-bound : goal.returns-clause-bound
returns-clause-bound g c =
    let h = c.args.case.now in
    let is = c.case.view_is in
    let rs = map spelled c.in-Some-2.records.items in
    let second : Some rs ≡ records_in pointer_limit h.answer_bytes = rw c.in-Some-2.is at c.in_ok-records.ensures.exact ∙ ap (λ (h : JudgeInput). records_in pointer_limit h.answer_bytes) is in
    omega (
      arith,
      c.requires,
      c.unproven_under.ensures.counted,
      c.unproven_under.ensures.bound,
      ap (λ vs. length (filter is_signature (map spelled vs))) c.deref-3.ensures.value,
      signatures_read pointer_limit h.answer_bytes rs second,
    )

use Rattle.std.proofs.Common.{◌≡◌, Bool, map, filter, sym, ap, subst, ◌∙◌}
use Rattle.std.specs.Prelude.{IfOk, None, Some, if◌then◌else◌}
use Rattle.definitions.specs.Limits.{pointer_limit}
use Rattle.messages.specs.Record.{spelled}
use Rattle.answer_scheme.specs.Answers.{with_test}
use Rattle.answer_judge_keys.specs.Trusted.{is_usable}
use Rattle.answer_judge.specs.Judged.{trusting}
use Rattle.answer_judge_facts.proofs.JudgeAsked.{agreed}
use Rattle.answer_verified_records.specs.Records.{signing_keys, verified_in_answer}
use Rattle.answer_verified_records.proofs.SigningKeys.{signed}
use Rattle.answer_verified_records.proofs.records.usable_in_messages.Goals as goal

pub returns-clause-exact : goal.returns-clause-exact
returns-clause-exact g c = λ test fits.
    let own = g.C.Checks.answers c.args.check_run.now.checks.now in
    let a = with_test own test in
    let h = c.args.case.now in
    let r = c.args.messages in
    let before = agreed own.verifies test _ _ (c.verified_under.ensures.agrees test) fits in
    let usable = filter is_usable r.tagged.items in
    let some : Some usable ≡ signing_keys a pointer_limit h r.keys.view.records r.tagged.items = ap (λ (b : Bool). if b then Some usable else None) (sym (c.requires.signed test before)) in
    let held = c.deref-2.ensures.value ∙ c.usable_keys-usable.ensures in
    let all : map spelled c.deref.result.now ≡ r.answer.view.records = ap (map spelled) c.deref.ensures.value ∙ c.requires.read.answer_listed.are in
    let path = (λ i. verified_in_answer (trusting a h (held i)) pointer_limit h.answer_bytes (all i) h.asked.name h.asked.rtype) ∙ signed a pointer_limit h r.keys.view r.answer.view usable (some ∙ (λ i. signing_keys a pointer_limit h r.keys.view.records (c.requires.read.tagged i))) in
    subst (λ x. IfOk c.verified_under.result (λ v. v.items ≡ x)) path (c.verified_under.ensures.exact test fits)

use Rattle.std.proofs.Common.{◌≡◌, map, ap, subst, ◌∙◌}
use Rattle.std.specs.Prelude.{IfOk, None, Some}
use Rattle.definitions.specs.Limits.{pointer_limit}
use Rattle.messages.specs.Record.{spelled}
use Rattle.answer_scheme.specs.Answers.{Answers, with_test}
use Rattle.answer_judge.specs.Judged.{trusting}
use Rattle.answer_judge_facts.proofs.JudgeAsked.{agreed, agreed_by}
use Rattle.answer_verified_records.specs.Records.{signing_keys, verified_in_answer}
use Rattle.answer_verified_records.proofs.SigningKeys.{signed, unsigned}
use Rattle.answer_verified_records.proofs.records.verified_in_messages.Goals as goal

pub returns-in_default-clause-exact : goal.returns-in_default-clause-exact
returns-in_default-clause-exact g c = λ test fits.
    let a = with_test (g.C.Checks.answers c.args.check_run.now.checks.now) test in
    let h = c.args.case.now in
    let r = c.args.messages in
    let rs : map spelled c.deref.result.now ≡ r.keys.view.records = ap (map spelled) c.deref.ensures.value ∙ c.requires.read.keys_listed.are in
    let none : None ≡ signing_keys a pointer_limit h (map spelled c.deref.result.now) r.tagged.items = rw c.in_default.is at c.in_ok-usable.ensures.exact test fits in
    c.new.ensures.items ∙ unsigned a pointer_limit h r.keys.view r.answer.view (none ∙ (λ i. signing_keys a pointer_limit h (rs i) (c.requires.read.tagged i)))

pub returns-clause-exact : goal.returns-clause-exact
returns-clause-exact g c = λ test fits.
    let own = g.C.Checks.answers c.args.check_run.now.checks.now in
    let a = with_test own test in
    let h = c.args.case.now in
    let r = c.args.messages in
    let at_keys = agreed own.verifies test _ _ (c.verified_under.ensures.agrees test) fits in
    let rs : map spelled c.deref.result.now ≡ r.keys.view.records = ap (map spelled) c.deref.ensures.value ∙ c.requires.read.keys_listed.are in
    let usable = c.in-Some.usable.items in
    let some : Some usable ≡ signing_keys a pointer_limit h (map spelled c.deref.result.now) r.tagged.items = rw c.in-Some.is at c.in_ok-usable.ensures.exact test at_keys in
    let same = c.in_ok-usable.ensures.same in
    let second = agreed_by own _ test _ same fits in
    let later = ap (λ (x : Answers). with_test x test) same in
    let all : map spelled c.deref-2.result.now ≡ r.answer.view.records = ap (map spelled) c.deref-2.ensures.value ∙ c.requires.read.answer_listed.are in
    let path = (λ i. verified_in_answer (trusting (later i) h (c.deref-3.ensures.value i)) pointer_limit h.answer_bytes (all i) h.asked.name h.asked.rtype) ∙ signed a pointer_limit h r.keys.view r.answer.view usable (some ∙ (λ i. signing_keys a pointer_limit h (rs i) (c.requires.read.tagged i))) in
    subst (λ x. IfOk c.verified_under.result (λ v. v.items ≡ x)) path (c.verified_under.ensures.exact test second)

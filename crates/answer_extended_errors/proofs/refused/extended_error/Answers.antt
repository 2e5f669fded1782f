use Rattle.std.proofs.Common.{rules, ◌≡◌, ◌⊎◌, inl, inr, ⊎_elim, sym, ap, subst, ◌∙◌}
use Rattle.std.specs.Prelude.{IfOk}
use Rattle.definitions.specs.Limits.{pointer_limit}
use Rattle.answer_scheme.specs.Answers.{with_test}
use Rattle.answer_judge.proofs.JudgedWholly.{agrees_too}
use Rattle.answer_judge_facts.proofs.JudgeAsked.{agreed_by}
use Rattle.answer_extended_errors.specs.Extended.{extended_error_of, unproven, untrusted}
use Rattle.answer_extended_errors.proofs.RefusalErrors.{plain_is}
use Rattle.answer_extended_errors.proofs.refused.extended_error.Goals as goal

pub returns-in-NoTrustedKey-clause-exact : goal.returns-in-NoTrustedKey-clause-exact
returns-in-NoTrustedKey-clause-exact g c = λ test fits.
    let h = c.args.case.now in
    let own = g.C.Checks.answers c.args.checks.now in
    let path = ap (λ v. untrusted (g.C.Checks.answers v) pointer_limit h) c.new-check_run.ensures.checks ∙ ap (extended_error_of (with_test own test) pointer_limit h) (sym c.in-NoTrustedKey.is) in
    subst (λ x. IfOk c.untrusted.result (λ e. e ≡ x)) path c.untrusted.ensures.exact

pub returns-in-NotProven-clause-exact : goal.returns-in-NotProven-clause-exact
returns-in-NotProven-clause-exact g c = λ test fits.
    let h = c.args.case.now in
    let own = g.C.Checks.answers c.args.checks.now in
    let now = c.unproven.new.check_run.checks.now in
    let fit : (test ≡ own.verifies) ⊎ g.C.Checks.agrees now test = ⊎_elim (λ e. inl e) (λ agrees. inr (agrees_too g.C.Checks.agrees _ now test agrees (search rules))) fits in
    let same = ap g.C.Checks.answers c.new-check_run.ensures.checks in
    let path = ap (λ v. unproven (with_test v test) pointer_limit h) same ∙ ap (extended_error_of (with_test own test) pointer_limit h) (sym c.in-NotProven.is) in
    subst (λ x. IfOk c.unproven.result (λ e. e ≡ x)) path (c.unproven.ensures.exact test (agreed_by own _ test _ same fit))

pub returns-clause-exact : goal.returns-clause-exact
returns-clause-exact g c = λ test fits.
    let a = with_test (g.C.Checks.answers c.args.checks.now) test in
    c.plain_error.ensures ∙ plain_is a pointer_limit c.args.case.now c.args.refusal c.in_default.not-NoTrustedKey c.in_default.not-NotProven

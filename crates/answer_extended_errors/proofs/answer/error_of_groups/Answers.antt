use Rattle.std.proofs.Common.{rules, ◌≡◌, ◌==◌, true, false, length, map, sym, ap, ◌∙◌}
use Rattle.std.specs.Prelude.{Option, None}
use Rattle.messages.specs.Record.{fields_of, spelled}
use Rattle.answer_scheme.specs.Answers.{with_test}
use Rattle.answer_judge_facts.specs.Marked.{held_by}
use Rattle.answer_extended_errors.specs.Extended.{untimely}
use Rattle.answer_extended_errors.proofs.GroupErrors.{all_late, in_use, none_gathered}
use Rattle.answer_extended_errors.proofs.answer.error_of_groups.Goals as goal

pub returns-then-is_empty-clause-exact : goal.returns-then-is_empty-clause-exact
returns-then-is_empty-clause-exact g c = λ test fits.
    let w = held_by (with_test (g.C.Checks.answers c.args.check_run.now.checks.now) test) c.args.trust.now in
    let gs = c.args.groups.now in
    let none : (length gs == 0) ≡ true = search rules in
    none_gathered w c.args.message.now gs (map spelled c.args.records.now) none

pub returns-in-Some-clause-exact : goal.returns-in-Some-clause-exact
returns-in-Some-clause-exact g c = λ test fits.
    let w = held_by (with_test (g.C.Checks.answers c.args.check_run.now.checks.now) test) c.args.trust.now in
    let gs = c.args.groups.now in
    let some : (length gs == 0) ≡ false = search rules in
    let is = c.in-Some.ensures ∙ ap (λ vs. untimely w.now (map fields_of vs)) c.deref.ensures.value ∙ ap (untimely w.now) c.in_ok-signatures.ensures in
    all_late w c.args.message.now gs (map spelled c.args.records.now) c.in-Some.error some is

pub returns-then-is_one_verified-clause-exact : goal.returns-then-is_one_verified-clause-exact
returns-then-is_one_verified-clause-exact g c = λ test fits.
    let w = held_by (with_test (g.C.Checks.answers c.args.check_run.now.checks.now) test) c.args.trust.now in
    let gs = c.args.groups.now in
    let some : (length gs == 0) ≡ false = search rules in
    let is = c.in_default.ensures ∙ ap (λ vs. untimely w.now (map fields_of vs)) c.deref.ensures.value ∙ ap (untimely w.now) c.in_ok-signatures.ensures in
    in_use w c.args.message.now gs (map spelled c.args.records.now) c.verify_groups.new.groups true some is (c.in_ok-verify_groups.ensures.marked test fits) (sym c.is_one_verified.ensures ∙ c.if-is_one_verified.true)

pub returns-clause-exact : goal.returns-clause-exact
returns-clause-exact g c = λ test fits.
    let w = held_by (with_test (g.C.Checks.answers c.args.check_run.now.checks.now) test) c.args.trust.now in
    let gs = c.args.groups.now in
    let some : (length gs == 0) ≡ false = search rules in
    let is = c.in_default.ensures ∙ ap (λ vs. untimely w.now (map fields_of vs)) c.deref.ensures.value ∙ ap (untimely w.now) c.in_ok-signatures.ensures in
    in_use w c.args.message.now gs (map spelled c.args.records.now) c.verify_groups.new.groups false some is (c.in_ok-verify_groups.ensures.marked test fits) (sym c.is_one_verified.ensures ∙ c.if-is_one_verified.false)

use mathlib.Core.Path.{transport}
use Rattle.std.proofs.Common.{◌≡◌, map, ap, ◌∙◌}
use Rattle.std.specs.Prelude.{IfOk}
use Rattle.definitions.specs.Limits.{pointer_limit}
use Rattle.messages.specs.Record.{spelled}
use Rattle.answer_scheme.specs.Answers.{with_test}
use Rattle.answer_judge_facts.specs.Marked.{is_chain_type}
use Rattle.answer_judge.specs.Judging.{JudgeInput}
use Rattle.answer_verified_records.specs.Records.{verified_in_answer}
use Rattle.answer_verified_records.proofs.answer.verified_under.Goals as goal

pub verified_in_answer-requires : goal.verified_in_answer-requires
verified_in_answer-requires g c =
    let is = c.case.view_is in
    record {
      room = c.requires.room;
      other = ap (λ (h : JudgeInput). is_chain_type h.asked.rtype) is ∙ c.requires.other;
    }

pub returns-clause-exact : goal.returns-clause-exact
returns-clause-exact g c = λ test fits.
    let is = c.case.view_is in
    let moment = c.timestamp.ensures ∙ ap (λ (h : JudgeInput). h.now) is in
    let a = with_test (g.C.Checks.answers c.args.check_run.now.checks.now) test in
    let rs = map spelled c.args.records.now in
    transport
    (λ i. IfOk c.verified_in_answer.result (λ v. v.items ≡ verified_in_answer (record { answers = a; apex = (is i).apex; keys = c.in_ok-index.ensures i; now = moment i }) pointer_limit (is i).answer_bytes rs (is i).asked.name (is i).asked.rtype))
    (c.verified_in_answer.ensures.exact test fits)

use mathlib.Core.Path.{transport}
use Rattle.std.proofs.Common.{◌≡◌, ◌||◌, [], map, sym, ap, ◌∙◌}
use Rattle.std.specs.Prelude.{IfOk, nat_eq}
use Rattle.definitions.specs.Limits.{pointer_limit}
use Rattle.messages.specs.Record.{spelled}
use Rattle.answer_scheme.specs.Answers.{with_test}
use Rattle.answer_judge_facts.specs.Asked.{Implies, is_tried_among}
use Rattle.answer_judge.specs.Judging.{JudgeInput}
use Rattle.answer_judge_facts.specs.Validity.{answer_validity}
use Rattle.answer_judge_facts.specs.Sought.{answer_sought}
use Rattle.answer_judge_facts.specs.VerifiedProof.{IsVerifiedProof}
use Rattle.answer_judge.proofs.judging.trusting.read_proof.Goals as goal

pub read_facts-requires : goal.read_facts-requires
read_facts-requires g c =
    let is = c.case.view_is in
    record {
      room = c.requires.room;
      other = (λ i. (ap (λ (h : JudgeInput). nat_eq h.asked.rtype 47) is ∙ c.requires.other) i || (ap (λ (h : JudgeInput). nat_eq h.asked.rtype 50) is ∙ c.requires.other_too) i);
    }

pub returns-clause-proves : goal.returns-clause-proves
returns-clause-proves g c = λ test fits.
    let is = c.case.view_is in
    let moment = c.timestamp.ensures ∙ ap (λ (h : JudgeInput). h.now) is in
    let a = with_test (g.C.Checks.answers c.args.check_run.now.checks.now) test in
    let rs = map spelled c.args.records.now in
    let before = c.args.check_run.now.count in
    let after = c.read_facts.new.check_run.count in
    transport
    (λ i. IfOk c.read_facts.result (λ p. IsVerifiedProof (record { answers = a; apex = (is i).apex; keys = c.in_ok-index.ensures i; now = moment i }) pointer_limit (is i).answer_bytes rs (is i).asked.name (is i).asked.rtype p before after))
    (c.read_facts.ensures.proves test fits)

pub returns-clause-lasts : goal.returns-clause-lasts
returns-clause-lasts g c = λ test fits.
    let is = c.case.view_is in
    let moment = c.timestamp.ensures ∙ ap (λ (h : JudgeInput). h.now) is in
    let a = with_test (g.C.Checks.answers c.args.check_run.now.checks.now) test in
    let rs = map spelled c.args.records.now in
    transport
    (λ i. IfOk c.read_facts.result (λ p. p.validity ≡ answer_validity (record { answers = a; apex = (is i).apex; keys = c.in_ok-index.ensures i; now = moment i }) pointer_limit (is i).answer_bytes rs (is i).asked.name (is i).asked.rtype))
    (c.read_facts.ensures.lasts test fits)

pub returns-clause-asked : goal.returns-clause-asked
returns-clause-asked g c = λ test passes.
    let is = c.case.view_is in
    let back = sym is in
    let moment = c.timestamp.ensures ∙ ap (λ (h : JudgeInput). h.now) is in
    let own = g.C.Checks.answers c.args.check_run.now.checks.now in
    let rs = map spelled c.args.records.now in
    c.read_facts.ensures.asked test
    (transport
    (λ i. Implies (is_tried_among (record { answers = own; apex = (back i).apex; keys = sym c.in_ok-index.ensures i; now = sym moment i }) pointer_limit (back i).answer_bytes (answer_sought pointer_limit (back i).answer_bytes (back i).apex rs (back i).asked.name (back i).asked.rtype) [] rs) test)
    passes)

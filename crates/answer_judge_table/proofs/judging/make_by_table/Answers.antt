use Rattle.std.proofs.Common.{◌≡◌, ◌==◌, false, inr, length, ap, subst, sym, ◌∙◌, arith, rules}
use Rattle.definitions.specs.Limits.{pointer_limit}
use Rattle.answer_scheme.specs.Answers.{Answers, SignatureTest}
use Rattle.answer_judge.specs.Tried.{is_tried_signature}
use Rattle.answer_judge.specs.Judging.{answer_of, hashes_of, verifications_of}
use Rattle.answer_judge.specs.Meeting.{IsJudgement}
use Rattle.answer_judge_table.specs.Asking.{PassesEach, is_cut_short}
use Rattle.answer_judge_table.specs.Table.{answers_with, may_pass_in, tried}
use Rattle.answer_judge_table.proofs.TableAsks.{are_asked, in_ok, is_judged, none_each, some_asked, whole}
use Rattle.answer_judge_table.proofs.judging.make_by_table.Goals as goal

pub returns-then-is_empty-clause-outcome : goal.returns-then-is_empty-clause-outcome
returns-then-is_empty-clause-outcome g c =
    let asks = c.in-Ok.asks.items in
    let kept = in_ok _ _ c.in-Ok.is _ c.into_lacking-asks.ensures.kept in
    let same = in_ok _ _ c.in-Ok.is _ c.into_lacking-asks.ensures.asks in
    let none : length asks ≡ 0 = search rules in
    is_judged g.T.GhostTable.table c.args.case.now c.judge-said.result
    (λ passes agrees.
    let test : SignatureTest = λ key octets signature. passes (tried key octets signature) in
    (c.judge-said.ensures.agreeing test (kept, agrees, subst (λ xs. PassesEach xs test) same (none_each asks test none))).1)
    (λ passes agrees.
    let test : SignatureTest = λ key octets signature. passes (tried key octets signature) in
    c.judge-said.ensures.lasts test (inr (kept, agrees, subst (λ xs. PassesEach xs test) same (none_each asks test none))))

pub returns-in-Ok-clause-outcome : goal.returns-in-Ok-clause-outcome
returns-in-Ok-clause-outcome g c =
    let table = g.T.GhostTable.table in
    let h = c.args.case.now in
    let e = c.judge-said.ensures in
    let own : Answers = answers_with (may_pass_in table) in
    let held = c.judge-said.new.checks.asks.items in
    let kept = c.judge-said.new.checks.kept in
    let answer = answer_of c.judge-said.result in
    let count = verifications_of c.judge-said.result in
    let hashes = hashes_of c.judge-said.result in
    let asks = c.in-Ok.asks.items in
    let all_kept = in_ok _ _ c.in-Ok.is _ c.into_lacking-asks.ensures.kept in
    let same = in_ok _ _ c.in-Ok.is _ c.into_lacking-asks.ensures.asks in
    let new = in_ok _ _ c.in-Ok.is _ c.into_lacking-asks.ensures.new in
    let counted = in_ok _ _ c.in-Ok.is _ c.into_lacking-asks.ensures.counted in
    let is_tried : SignatureTest = is_tried_signature own pointer_limit h in
    let each = e.asked is_tried (λ key octets signature t. t) (subst (λ xs. PassesEach xs is_tried) (sym c.new-checks.ensures.asks) tt) in
    let on : is_cut_short answer hashes ≡ false = sym c.is_cut_short.ensures ∙ c.if-is_cut_short.false in
    let mine : IsJudgement pointer_limit own h answer count hashes = record { keeps = e.judges; exact = e.exact; counts = e.counts; hash_counts = e.hash_counts; given = e.given; honest = e.honest; timely = e.timely } in
    let is = whole table h held kept answer count hashes mine (λ test agrees. (e.agreeing test agrees).1) on e.decided in
    let some = some_asked (length asks) (sym (c.is_empty.ensures ∙ ap (λ n. n == 0) c.in-Ok.asks.ok.0) ∙ c.if-is_empty.false) in
    are_asked table h held kept count is all_kept asks same c.judge-said.new.checks.verified some new counted
    (omega (arith, e.verified, c.new-checks.ensures.verified))
    e.judges.verifications_bound
    (subst (λ xs. PassesEach xs is_tried) (sym same) each)

use Rattle.std.proofs.Common.{◌≡◌, ◌==◌, length, ap, sym, ◌∙◌, rules}
use Rattle.answer_judge_table.proofs.TableAsks.{some_asked}
use Rattle.answer_findings.proofs.Searched.{first_asked, own_asked}
use Rattle.answer_findings.proofs.finds.asks_first.Goals as goal

pub returns-then-is_empty : goal.returns-then-is_empty
returns-then-is_empty c =
    let first = c.in_ok-first.first.items in
    let none : length first ≡ 0 = search rules in
    own_asked c.args.table.now c.args.case.now c.args.own.items first c.requires.own none c.in_ok-first.ensures

pub returns : goal.returns
returns c =
    let first = c.in_ok-first.first.items in
    let some = some_asked (length first) (sym (c.is_empty.ensures ∙ ap (λ n. n == 0) c.in_ok-first.first.ok.0) ∙ c.if-is_empty.false) in
    first_asked c.args.table.now c.args.case.now c.args.own.items first c.requires.own some c.in_ok-first.ensures

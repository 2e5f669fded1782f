use Rattle.std.proofs.Common.{sym, ap, ◌∙◌}
use Rattle.answer_judge.specs.Judged.{are_mixed}
use Rattle.answer_judge.proofs.judging.deciding.are_mixed.Goals as goal

pub returns-in-Some : goal.returns-in-Some
returns-in-Some c = c.are_unlike.ensures ∙ ap are_mixed (sym c.in-Some.ensures.cases.0)

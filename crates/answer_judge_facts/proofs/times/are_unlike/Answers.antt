use Rattle.std.proofs.Common.{sym, ◌∙◌}
use Rattle.std.specs.Prelude.{None, Some}
use Rattle.answer_judge_facts.proofs.JudgeTimes.{unlike_groups}
use Rattle.answer_judge_facts.proofs.times.are_unlike.Goals as goal

pub returns-in-None : goal.returns-in-None
returns-in-None c = sym (unlike_groups c.args.groups.now None (sym c.in-None.is ∙ c.first_signed.ensures))

pub returns-in-Some : goal.returns-in-Some
returns-in-Some c = c.are_beside.ensures ∙ sym (unlike_groups c.args.groups.now (Some c.in-Some.first) (sym c.in-Some.is ∙ c.first_signed.ensures))

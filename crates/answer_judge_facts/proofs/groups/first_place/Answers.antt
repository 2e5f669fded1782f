use Rattle.std.proofs.Common.{sym, ap, ◌∙◌}
use Rattle.answer_judge_facts.specs.Marked.{is_of}
use Rattle.answer_judge_facts.proofs.JudgeMarks.{item_one}
use Rattle.answer_judge_facts.proofs.groups.first_place.Goals as goal

pub returns-then-is_of-clause-found : goal.returns-then-is_of-clause-found
returns-then-is_of-clause-found c = (λ g e. ap (is_of c.args.owner.now c.args.rtype) (item_one c.args.groups.now c.loop-i.i g c.index-groups-i.result c.loop-i-test.true e c.index-groups-i.is) ∙ sym c.is_of.ensures ∙ c.if-is_of.true)

use Rattle.answer_judge_rules.proofs.Closest.{wildcard_given}
use Rattle.answer_judge_rules.proofs.facts.NsecLink.wildcard.Goals as goal

pub returns-in-Some : goal.returns-in-Some
returns-in-Some c =
    wildcard_given c.args.self.now c.args.name.now c.in-Some.encloser c.wildcard_child.result c.keeps.ensures c.in-Some.ensures c.wildcard_child.ensures.some c.wildcard_child.ensures.none

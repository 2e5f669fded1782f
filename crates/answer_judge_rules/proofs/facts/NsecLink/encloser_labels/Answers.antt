use Rattle.std.proofs.Common.{ap, ◌∙◌, rules}
use Rattle.answer_judge_rules.specs.Enclosers.{shared}
use Rattle.answer_judge_rules.proofs.Closest.{parent_labels}
use Rattle.answer_judge_rules.proofs.facts.NsecLink.encloser_labels.Goals as goal

pub returns : goal.returns
returns c =
    let p = c.in_ok-parent.parent in
    parent_labels c.args.self.now c.args.name.now p c.owner_labels-labels.result c.shared_labels.result c.max.result c.in_ok-parent.ensures.root c.in_ok-parent.ensures.value
    c.owner_labels-labels.ensures
    (c.shared_labels.ensures ∙ ap (shared p) c.next.ensures)
    (search rules)

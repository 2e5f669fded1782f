use Rattle.std.proofs.Common.{sym, ◌∙◌, subst, rules}
use Rattle.std.specs.Prelude.{IfSome}
use Rattle.answer_judge_rules.specs.Enclosers.{IsUntold}
use Rattle.answer_judge_rules.specs.Rules.{verdict_of}
use Rattle.answer_judge_rules.proofs.Wildcards.{covered_so, none_told, same_labels, still_untold, now_untold}
use Rattle.answer_judge_rules.proofs.facts.NsecLink.covered.Goals as goal
use Rattle.answer_judge_rules.proofs.facts.NsecLink.covered.Goals.{then-is_none, else-is_none}

pub returns-then-was_sought-clause-verdict : goal.returns-then-was_sought-clause-verdict
returns-then-was_sought-clause-verdict c =
    let f = c.args.self.now in
    sym (covered_so c.args.asked.now.apex.now c.args.asked.now.name.now c.args.asked.now.rtype c.args.links.now f (search rules) (search rules)
    ∙ still_untold c.args.asked.now.apex.now c.args.asked.now.name.now c.args.asked.now.rtype c.args.links.now f c.args.sought.now
    (sym (same_labels c.encloser_labels-encloser.result c.args.sought.now (search rules)) ∙ c.encloser_labels-encloser.ensures) c.requires)

pub returns-clause-sought : goal.returns-clause-sought
returns-clause-sought c =
    let apex = c.args.asked.now.apex.now in
    let q = c.args.asked.now.name.now in
    let fs = c.args.links.now in
    elim c.if-is_none.branch [
      | then-is_none w ↦ now_untold apex q c.args.asked.now.rtype fs c.args.self.now c.if-is_none.sought (w.sought-is ∙ c.encloser_labels-encloser.ensures)
          (sym c.in_ok-told.ensures ∙ none_told verdict_of c.in_ok-told.told (search rules))
      | else-is_none w ↦ subst (λ o. IfSome o (IsUntold apex q c.args.asked.now.rtype fs)) (sym w.sought-is) c.requires
    ]

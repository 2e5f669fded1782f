use Rattle.std.proofs.Common.{refl, sym, ap, ◌∙◌}
use Rattle.denial_laws.specs.Facts.{Link}
use Rattle.answer_judge_rules.proofs.Closest.{none_shown}
use Rattle.answer_judge_rules.proofs.facts.NsecLink.owner_labels.Goals as goal

pub returns-in-None : goal.returns-in-None
returns-in-None g c = none_shown c.args.self.now (g.N.Labels.name c.args.name.now) (sym (ap (λ (f : Link). f.owner) c.self.view_is) ∙ c.in-None.ensures.root.0 refl)

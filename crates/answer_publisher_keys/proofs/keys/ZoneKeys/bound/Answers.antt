use Rattle.std.proofs.Common.{sym, ap, ◌∙◌}
use Rattle.answer_publisher_keys.specs.Bindings.{bound_at}
use Rattle.answer_publisher_keys.proofs.BoundKeys.{find-by_text}
use Rattle.answer_publisher_keys.proofs.keys.ZoneKeys.bound.Goals as goal

pub returns : goal.returns
returns c = c.get.ensures.value ∙ sym (find-by_text c.self.inside.bound.entries c.args.reference.now) ∙ ap (λ s. bound_at s.bound c.args.reference.now) c.self.view_is

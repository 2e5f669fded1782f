use Rattle.std.proofs.Common.{◌++◌, ◌∙◌, ap}
use Rattle.messages.proofs.SpelledFields.{fields_spelled}
use Rattle.messages.proofs.signed.compose_fields.Goals as goal

pub returns-in-Ok : goal.returns-in-Ok
returns-in-Ok g c = record { ok = c.in-Ok.ensures.ok ∙ ap (λ x. c.args.out.now.items ++ x) (fields_spelled g.N.Labels.name c.args.fields.now); err = tt }

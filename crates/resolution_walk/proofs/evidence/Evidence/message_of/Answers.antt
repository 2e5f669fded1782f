use Rattle.std.proofs.Common.{ap, ◌∙◌}
use Rattle.evidence_laws.specs.Given.{Given, message_of}
use Rattle.resolution_walk.proofs.evidence.Evidence.message_of.Goals as goal

pub returns : goal.returns
returns c = c.first_of.ensures ∙ ap (λ (e : Given). message_of e c.args.zone.now c.args.name.now c.args.rtype) c.self.view_is

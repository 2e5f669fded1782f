use Rattle.std.proofs.Common.{sym, ◌∙◌}
use Rattle.resolution_walk.specs.Ended.{said_of}
use Rattle.resolution_walk.proofs.Walked.{kept_said, kept_unsaid}
use Rattle.resolution_walk.proofs.walk.validity_if_said.Goals as goal

pub returns-then-says-clause-lasts : goal.returns-then-says-clause-lasts
returns-then-says-clause-lasts c = kept_said (said_of c.args.walk.ending) c.args.walk.validity (sym c.says.ensures ∙ c.if-says.true)

pub returns-else-says-clause-lasts : goal.returns-else-says-clause-lasts
returns-else-says-clause-lasts c = c.with_no_validity.ensures.lasts ∙ kept_unsaid (said_of c.args.walk.ending) c.args.walk.validity (sym c.says.ensures ∙ c.if-says.false)

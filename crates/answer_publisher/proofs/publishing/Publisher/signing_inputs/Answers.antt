use Rattle.std.proofs.Common.{rules}
use Rattle.answer_terms.proofs.AllowedTypes.{allowed_plain, inside_apex}
use Rattle.messages.specs.Questions.{asked_of}
use Rattle.answer_publisher.proofs.publishing.Publisher.signing_inputs.Goals as goal

pub plain_inputs-requires-clause-plain : goal.plain_inputs-requires-clause-plain
plain_inputs-requires-clause-plain g c = allowed_plain c.args.self.now.zone.apex (asked_of c.args.question.now) (search rules)

pub plain_inputs-requires-clause-inside : goal.plain_inputs-requires-clause-inside
plain_inputs-requires-clause-inside g c = inside_apex c.args.self.now.zone.apex (asked_of c.args.question.now) (search rules)

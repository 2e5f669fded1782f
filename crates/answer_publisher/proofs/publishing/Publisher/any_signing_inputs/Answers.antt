use Rattle.std.proofs.Common.{sym, ◌∙◌, rules}
use Rattle.messages.specs.Questions.{asked_of}
use Rattle.answer_publisher.proofs.Answered.{answered_inside, answered_plain, unanswered_refused}
use Rattle.answer_publisher.proofs.publishing.Publisher.any_signing_inputs.Goals as goal

pub plain_inputs-requires-clause-plain : goal.plain_inputs-requires-clause-plain
plain_inputs-requires-clause-plain g c = answered_plain c.args.self.now.zone.apex (asked_of c.args.question.now) (search rules)

pub plain_inputs-requires-clause-inside : goal.plain_inputs-requires-clause-inside
plain_inputs-requires-clause-inside g c = answered_inside c.args.self.now.zone.apex (asked_of c.args.question.now) (search rules)

pub returns-then-not-is_answered-clause-fault : goal.returns-then-not-is_answered-clause-fault
returns-then-not-is_answered-clause-fault g c = unanswered_refused c.args.self.now.zone.apex (asked_of c.args.question.now) (sym c.is_answered.ensures ∙ c.if-not-is_answered.true)

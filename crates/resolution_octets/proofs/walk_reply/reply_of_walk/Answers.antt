use Rattle.std.proofs.Common.{rules, sym, ◌∙◌}
use Rattle.messages.specs.Questions.{asked_of}
use Rattle.answer_judge_octets.specs.Replying.{reply_seen}
use Rattle.resolution_octets.proofs.TooFar.{not_too_far, too_far}
use Rattle.resolution_octets.proofs.walk_reply.reply_of_walk.Goals as goal

pub returns-then-goes_too_far : goal.returns-then-goes_too_far
returns-then-goes_too_far c =
    too_far c.args.second c.args.limits c.args.evidence.now (asked_of c.args.question.now) c.args.walk.now _ _ (sym c.goes_too_far.ensures ∙ c.if-goes_too_far.true) (search rules)

pub returns : goal.returns
returns c =
    not_too_far c.args.second c.args.limits c.args.evidence.now (asked_of c.args.question.now) c.args.walk.now _ c.reply_of_ending.result (sym c.goes_too_far.ensures ∙ c.if-goes_too_far.false) c.reply_of_ending.ensures

use Rattle.std.proofs.Common.{Some, ◌∙◌, arith}
use Rattle.messages_canonical.proofs.Seen.{no_numbers, no_owner, record_there}
use Rattle.messages_canonical.proofs.walk.passed_at.Goals as goal

pub returns-in_err-end-clause-passes : goal.returns-in_err-end-clause-passes
returns-in_err-end-clause-passes c r e h = absurd (no_owner c.numbers_read_alike.ensures c.args.message.now c.args.at r e c.in_err-end.ensures.ends h)

pub returns-in_err-rtype-clause-passes : goal.returns-in_err-rtype-clause-passes
returns-in_err-rtype-clause-passes c r e h =
    absurd (no_numbers c.numbers_read_alike.ensures c.args.message.now c.args.at c.in_ok-end.end r e c.in_ok-end.ensures.ends c.in_err-rtype.ensures.short h)

pub returns-then-limit-message-clause-passes : goal.returns-then-limit-message-clause-passes
returns-then-limit-message-clause-passes c r e h =
    let n = c.in_ok-rtype.ensures in
    let there = record_there c.numbers_read_alike.ensures c.args.message.now c.args.at c.in_ok-end.end c.in_ok-rtype.rtype c.in_ok-rtype.length r e c.in_ok-end.ensures.ends n.there n.rtype n.length h in
    absurd (omega (arith, there.2, there.3, c.if-limit-message.true))

pub returns-clause-passes : goal.returns-clause-passes
returns-clause-passes c r e h =
    let n = c.in_ok-rtype.ensures in
    let there = record_there c.numbers_read_alike.ensures c.args.message.now c.args.at c.in_ok-end.end c.in_ok-rtype.rtype c.in_ok-rtype.length r e c.in_ok-end.ensures.ends n.there n.rtype n.length h in
    λ i. Some ((c.from_int.ensures ∙ there.0) i, there.1 i, there.2 i)

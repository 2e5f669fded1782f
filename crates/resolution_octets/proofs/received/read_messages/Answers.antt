use Rattle.std.proofs.Common.{◌≡◌, ◌∷◌, ◌++◌, [], rules}
use Rattle.resolution_octets.proofs.MessagesRead.{one_unread, read_more}
use Rattle.resolution_octets.proofs.received.read_messages.Goals as goal

pub returns-in_err-message-clause-unread : goal.returns-in_err-message-clause-unread
returns-in_err-message-clause-unread c =
    let some = one_unread c.args.sent.now c.loop-message.message-index c.message-item.result c.loop-message-test.true c.message-item.is in search (rules, some)

pub loop-message-preserved : goal.loop-message-preserved
loop-message-preserved c =
    let pushed : c.push.new.self.items ≡ c.loop-message.read.items ++ c.in_ok-message.message ∷ [] = search rules in
    read_more c.args.sent.now c.loop-message.message-index c.message-item.result c.loop-message.read.items c.in_ok-message.message c.push.new.self.items
    c.loop-message-test.true c.message-item.is c.loop-message.invariant c.in_ok-message.ensures.ok pushed

use Rattle.std.proofs.Common.{◌≡◌, rules}
use Rattle.std.specs.Cow.{cow_slice_items}
use Rattle.resolution_octets.proofs.MessagesRead.{handed_more}
use Rattle.resolution_octets.proofs.received.walk_messages.Goals as goal

pub loop-message-preserved : goal.loop-message-preserved
loop-message-preserved c =
    let octets : c.as_slice.result.now ≡ cow_slice_items c.message-item.result.octets = search rules in
    handed_more c.args.read.now c.loop-message.message-index c.message-item.result c.as_slice.result.now c.loop-message.walk_messages.items c.push.new.self.items
    c.loop-message-test.true c.message-item.is octets c.loop-message.invariant c.in_ok-push.ensures.items

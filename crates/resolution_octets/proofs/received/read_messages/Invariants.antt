use Rattle.std.proofs.Common.{map, take}
use Rattle.resolution_octets.specs.ReadMessages.{message_of}
use Rattle.resolution_octets.specs.Spelling.{AreRead}
use Rattle.resolution_octets.proofs.received.read_messages.Given as goal

abbrev pub invariant-loop-message : goal.invariant-loop-message
invariant-loop-message l = AreRead (take l.message-index l.sent) (map message_of l.read.items)

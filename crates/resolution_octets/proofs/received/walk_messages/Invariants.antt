use Rattle.std.proofs.Common.{◌≡◌, map, take}
use Rattle.resolution_octets.specs.ReadMessages.{message_of}
use Rattle.resolution_octets.proofs.received.walk_messages.Given as goal

abbrev pub invariant-loop-message : goal.invariant-loop-message
invariant-loop-message l = l.walk_messages.items ≡ map message_of (take l.message-index l.read)

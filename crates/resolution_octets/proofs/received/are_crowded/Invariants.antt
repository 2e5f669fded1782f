use Rattle.std.proofs.Common.{◌≡◌, drop, map}
use Rattle.resolution_octets.specs.ReadMessages.{message_of}
use Rattle.resolution_octets.specs.Replying.{are_crowded}
use Rattle.resolution_octets.proofs.received.are_crowded.Given as goal

abbrev pub invariant-loop-message : goal.invariant-loop-message
invariant-loop-message l = are_crowded (map message_of (drop l.message-index l.read)) ≡ are_crowded (map message_of l.read)

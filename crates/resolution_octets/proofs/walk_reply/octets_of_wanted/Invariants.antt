use Rattle.std.proofs.Common.{◌≡◌, take}
use Rattle.std.specs.List.{flat_map}
use Rattle.resolution_octets.specs.Saying.{wanted_octets}
use Rattle.resolution_octets.proofs.walk_reply.octets_of_wanted.Given as goal

abbrev pub invariant-loop-message : goal.invariant-loop-message
invariant-loop-message l = l.octets.items ≡ flat_map wanted_octets (take l.message-index l.wanted)

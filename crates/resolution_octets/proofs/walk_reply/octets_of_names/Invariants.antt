use Rattle.std.proofs.Common.{◌≡◌, ◌++◌, take, length}
use Rattle.std.specs.Int.{w32, to_be_bytes}
use Rattle.std.specs.List.{flat_map}
use Rattle.definitions.specs.Name.{wire}
use Rattle.resolution_octets.proofs.walk_reply.octets_of_names.Given as goal

abbrev pub invariant-loop-name : goal.invariant-loop-name
invariant-loop-name l = l.octets.items ≡ to_be_bytes w32 (length l.names) ++ flat_map wire (take l.name-index l.names)

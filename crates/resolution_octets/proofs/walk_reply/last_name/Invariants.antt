use Rattle.std.proofs.Common.{◌≡◌, drop}
use Rattle.resolution_walk.specs.Truth.{last_of}
use Rattle.resolution_octets.proofs.walk_reply.last_name.Given as goal

-- the last of what is left is the last of all
abbrev pub invariant-loop-next : goal.invariant-loop-next
invariant-loop-next l = last_of l.last (drop l.next-index l.through) ≡ last_of l.fn.name l.through

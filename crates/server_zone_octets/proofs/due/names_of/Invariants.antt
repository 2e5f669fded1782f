use Rattle.std.proofs.Common.{◌≡◌, take}
use Rattle.server_zone_octets.specs.Dues.{names_of}
use Rattle.server_zone_octets.proofs.due.names_of.Given as goal

abbrev pub invariant-loop-action : goal.invariant-loop-action
invariant-loop-action l = l.names.items ≡ names_of (take l.action-index l.actions)

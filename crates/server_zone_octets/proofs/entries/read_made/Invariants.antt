use Rattle.std.proofs.Common.{◌≡◌, ◌++◌, length}
use Rattle.std.specs.List.{AllByRecursion, flat_map}
use Rattle.server_zone_octets.specs.Entries.{FitsMade, made_octets}
use Rattle.server_zone_octets.proofs.entries.read_made.Given as goal

abbrev pub invariant-loop-rest : goal.invariant-loop-rest
invariant-loop-rest l = AllByRecursion FitsMade l.made.items × (l.octets ≡ flat_map made_octets l.made.items ++ l.rest)

abbrev pub decreases-loop-rest : goal.decreases-loop-rest
decreases-loop-rest l = length l.rest

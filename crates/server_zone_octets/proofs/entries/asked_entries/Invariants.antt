use Rattle.std.proofs.Common.{◌≡◌, map, take}
use Rattle.std.specs.List.{AllByRecursion}
use Rattle.server_zone_octets.specs.Entries.{FitsMade, asked, entries_of}
use Rattle.server_zone_octets.proofs.entries.asked_entries.Given as goal

abbrev pub invariant-loop-input : goal.invariant-loop-input
invariant-loop-input l = (l.octets.items ≡ entries_of (take l.input-index l.inputs)) × AllByRecursion FitsMade (map asked (take l.input-index l.inputs))

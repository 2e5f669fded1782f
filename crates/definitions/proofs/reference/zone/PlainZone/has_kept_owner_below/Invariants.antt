use Rattle.std.proofs.Common.{◌≡◌, drop}
use Rattle.definitions.specs.Name.{at_or_above}
use Rattle.definitions.specs.Zone.{is_kept}
use Rattle.definitions.proofs.PlainZones.{any_kept}
use Rattle.definitions.proofs.reference.zone.PlainZone.has_kept_owner_below.Given as goal

abbrev pub invariant-loop-record : goal.invariant-loop-record
invariant-loop-record l = any_kept (is_kept l.self l.excluding) (at_or_above l.name) l.self.records ≡ any_kept (is_kept l.self l.excluding) (at_or_above l.name) (drop l.record-index l.record-items)

use Rattle.std.proofs.Common.{◌≡◌, drop, map}
use Rattle.messages.specs.HandedRr.{handed_of}
use Rattle.server_zone.specs.States.{greatest_ttl}
use Rattle.server_zone.proofs.ttls.greatest_ttl.Given as goal

abbrev pub invariant-loop-record : goal.invariant-loop-record
invariant-loop-record l = greatest_ttl l.greatest (map handed_of (drop l.record-index l.records)) ≡ greatest_ttl l.initial.greatest (map handed_of l.records)

use Rattle.std.proofs.Common.{◌≡◌, drop, map}
use Rattle.messages.specs.Record.{spelled}
use Rattle.server_responses.specs.Sections.{negative_ttl}
use Rattle.server_responses.proofs.records.negative_ttl.Given as goal

abbrev pub invariant-loop-record : goal.invariant-loop-record
invariant-loop-record l = negative_ttl l.message (map spelled (drop l.record-index l.records)) ≡ negative_ttl l.message (map spelled l.records)

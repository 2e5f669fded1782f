use Rattle.std.proofs.Common.{◌≡◌, drop, map}
use Rattle.std.specs.List.{list_any}
use Rattle.messages.specs.Record.{spelled}
use Rattle.server_responses.specs.Links.{is_link}
use Rattle.server_responses.proofs.links.has_link.Given as goal

abbrev pub invariant-loop-record : goal.invariant-loop-record
invariant-loop-record l = list_any is_link (map spelled (drop l.record-index l.records)) ≡ list_any is_link (map spelled l.records)

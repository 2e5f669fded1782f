use Rattle.std.proofs.Common.{◌≡◌, drop, map}
use Rattle.std.specs.List.{list_any}
use Rattle.messages.specs.Record.{spelled}
use Rattle.names_parsed.specs.Parsed.{parsed_name}
use Rattle.server_responses.specs.Links.{tells_of}
use Rattle.server_responses.proofs.links.has_telling.Given as goal

abbrev pub invariant-loop-record : goal.invariant-loop-record
invariant-loop-record l = list_any (tells_of l.message (parsed_name l.name)) (map spelled (drop l.record-index l.records)) ≡ list_any (tells_of l.message (parsed_name l.name)) (map spelled l.records)

use Rattle.std.proofs.Common.{◌≡◌, drop, map}
use Rattle.std.specs.List.{list_any}
use Rattle.messages.specs.Record.{spelled}
use Rattle.names_parsed.specs.Parsed.{parsed_name}
use Rattle.server_responses.specs.Links.{is_link_of}
use Rattle.server_responses.proofs.links.has_link_of.Given as goal

abbrev pub invariant-loop-record : goal.invariant-loop-record
invariant-loop-record l = list_any (is_link_of (parsed_name l.name)) (map spelled (drop l.record-index l.records)) ≡ list_any (is_link_of (parsed_name l.name)) (map spelled l.records)

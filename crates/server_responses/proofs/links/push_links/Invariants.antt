use Rattle.std.proofs.Common.{◌≡◌, ◌+◌, ◌++◌, ◌≤◌, drop, length, map}
use Rattle.std.specs.List.{flat_map}
use Rattle.messages.specs.Record.{spelled}
use Rattle.messages.specs.Written.{record_octets}
use Rattle.names_parsed.specs.Parsed.{parsed_name}
use Rattle.server_responses.specs.Links.{links_shown}
use Rattle.server_responses.proofs.links.push_links.Given as goal

abbrev pub invariant-loop-record : goal.invariant-loop-record
invariant-loop-record l = record {
  octets : l.out.items ++ flat_map record_octets (links_shown l.section l.message (parsed_name l.name) (map spelled (drop l.record-index l.records)))
      ≡ l.fn.out.items ++ flat_map record_octets (links_shown l.section l.message (parsed_name l.name) (map spelled l.records));
  counted : l.count + length (links_shown l.section l.message (parsed_name l.name) (map spelled (drop l.record-index l.records))) ≡ length (links_shown l.section l.message (parsed_name l.name) (map spelled l.records));
  few : l.count ≤ l.record-index;
}

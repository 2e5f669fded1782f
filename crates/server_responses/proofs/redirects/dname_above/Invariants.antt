use Rattle.std.proofs.Common.{◌≡◌, drop, map}
use Rattle.std.specs.List.{find}
use Rattle.messages.specs.Record.{spelled}
use Rattle.names_parsed.specs.Parsed.{parsed_name}
use Rattle.server_responses.specs.Redirects.{is_dname_above}
use Rattle.server_responses.proofs.redirects.dname_above.Given as goal

abbrev pub invariant-loop-record : goal.invariant-loop-record
invariant-loop-record l = find (is_dname_above (parsed_name l.name)) (map spelled (drop l.record-index l.records)) ≡ find (is_dname_above (parsed_name l.name)) (map spelled l.records)

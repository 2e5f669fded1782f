use Rattle.std.proofs.Common.{◌≡◌, ◌+◌, ◌++◌, ◌≤◌, drop, length, map}
use Rattle.std.specs.List.{flat_map}
use Rattle.messages.specs.Record.{spelled}
use Rattle.messages.specs.Written.{record_octets}
use Rattle.server_responses.specs.Sections.{all_shown}
use Rattle.server_responses.proofs.records.push_section.Given as goal

abbrev pub invariant-loop-record : goal.invariant-loop-record
invariant-loop-record l = record {
  octets : l.out.items ++ flat_map record_octets (all_shown l.section l.message (map spelled (drop l.record-index l.records))) ≡ l.fn.out.items ++ flat_map record_octets (all_shown l.section l.message (map spelled l.records));
  counted : l.count + length (all_shown l.section l.message (map spelled (drop l.record-index l.records))) ≡ length (all_shown l.section l.message (map spelled l.records));
  few : l.count ≤ l.record-index;
}

use Rattle.std.proofs.Common.{◌≡◌, ◌+◌, ◌++◌, take}
use Rattle.std.specs.List.{flat_map}
use Rattle.messages.specs.Written.{record_octets}
use Rattle.answer_zone.specs.GroupRecords.{record_under}
use Rattle.answer_publisher.specs.Composed.{HasRoom}
use Rattle.answer_publisher.proofs.compose.Section.push_records.Given as goal

abbrev pub invariant-loop-record : goal.invariant-loop-record
invariant-loop-record l = record {
  octets : l.self.octets.items ≡ l.initial.self.octets.items ++ flat_map (λ r. record_octets (record_under l.group.owner l.group.rtype r)) (take l.record-index l.record-items);
  room : HasRoom l.initial.self.octets.items l.initial.self.count → HasRoom l.self.octets.items l.self.count;
  count : l.self.count ≡ l.initial.self.count + l.record-index;
}

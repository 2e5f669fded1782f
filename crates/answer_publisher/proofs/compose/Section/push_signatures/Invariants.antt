use Rattle.std.proofs.Common.{◌≡◌, ◌+◌, ◌++◌, take}
use Rattle.std.specs.List.{flat_map}
use Rattle.messages.specs.Written.{record_octets}
use Rattle.answer_publisher.specs.Composed.{HasRoom, rrsig_of}
use Rattle.answer_publisher.proofs.compose.Section.push_signatures.Given as goal

abbrev pub invariant-loop-data : goal.invariant-loop-data
invariant-loop-data l = record {
  octets : l.self.octets.items ≡ l.initial.self.octets.items ++ flat_map (λ v. record_octets (rrsig_of l.group v.items)) (take l.data-index l.datas);
  room : HasRoom l.initial.self.octets.items l.initial.self.count → HasRoom l.self.octets.items l.self.count;
  count : l.self.count ≡ l.initial.self.count + l.data-index;
}

use Rattle.std.proofs.Common.{◌≡◌, ◌-◌, map}
use Rattle.std.specs.Prelude.{OnOk}
use Rattle.messages.specs.Message.{records_at}
use Rattle.messages.specs.Record.{spelled}
use Rattle.messages.proofs.MessageRecords.{fault_in, in_front}
use Rattle.messages.proofs.listed.list_records.Given as goal
use Rattle.definitions.specs.Limits.{pointer_limit}

abbrev pub invariant-loop : goal.invariant-loop
invariant-loop l = record {
  fault : fault_in (records_at l.count pointer_limit l.bytes l.fn.first) ≡ fault_in (records_at (l.count - l.counter) pointer_limit l.bytes l.at);
  listed : OnOk l.listed (in_front (map spelled l.records.items) (records_at (l.count - l.counter) pointer_limit l.bytes l.at)
      ≡ in_front (map spelled l.fn.records.items) (records_at l.count pointer_limit l.bytes l.fn.first));
}

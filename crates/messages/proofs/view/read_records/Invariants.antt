use Rattle.std.proofs.Common.{◌≡◌, ◌-◌}
use Rattle.messages.specs.Message.{records_at}
use Rattle.messages.proofs.MessageRecords.{fault_in}
use Rattle.messages.proofs.view.read_records.Given as goal
use Rattle.definitions.specs.Limits.{pointer_limit}

abbrev pub invariant-loop : goal.invariant-loop
invariant-loop l = fault_in (records_at l.count pointer_limit l.bytes l.fn.first) ≡ fault_in (records_at (l.count - l.counter) pointer_limit l.bytes l.at)

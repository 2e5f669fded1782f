use Rattle.std.proofs.Common.{◌≡◌, filter, length, take, ◌≤◌}
use Rattle.answer_judge_octets.specs.Replying.{is_carried}
use Rattle.answer_judge_octets.proofs.limit.carried.Given as goal

abbrev pub invariant-loop-entry : goal.invariant-loop-entry
invariant-loop-entry l = (l.count ≡ length (filter (is_carried l.case.dnskey_bytes l.case.answer_bytes) (take l.entry-index l.table))) × (l.count ≤ l.entry-index)

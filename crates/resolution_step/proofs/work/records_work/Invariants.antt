use Rattle.std.proofs.Common.{◌≡◌, ◌+◌, ◌≤◌}
use Rattle.resolution_step.specs.Counted.{saturated}
use Rattle.resolution_step.specs.Work.{records_work}
use Rattle.resolution_step.proofs.work.records_work.Given as goal

-- the work so far and that of what is left is that of all
abbrev pub invariant-loop-record : goal.invariant-loop-record
invariant-loop-record l = record {
  within : l.work ≤ 18446744073709551615;
  whole : saturated (l.work + records_work l.records) ≡ saturated (records_work l.fn.records);
}

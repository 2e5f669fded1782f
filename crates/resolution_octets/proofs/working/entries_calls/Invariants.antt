use Rattle.std.proofs.Common.{◌≡◌, take, sum_by}
use Rattle.evidence_laws.specs.Counted.{saturated}
use Rattle.resolution_octets.specs.Working.{entry_calls}
use Rattle.resolution_octets.proofs.working.entries_calls.Given as goal

-- the calls of the entries so far
abbrev pub invariant-loop-entry : goal.invariant-loop-entry
invariant-loop-entry l = l.calls ≡ saturated (sum_by entry_calls (take l.entry-index l.table))

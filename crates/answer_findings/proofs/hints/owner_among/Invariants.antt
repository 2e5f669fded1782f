use Rattle.std.proofs.Common.{◌≡◌, drop, map}
use Rattle.std.specs.List.{find}
use Rattle.messages.specs.Record.{spelled}
use Rattle.answer_findings.specs.Hints.{hints_at}
use Rattle.answer_findings.proofs.hints.owner_among.Given as goal

abbrev pub invariant-loop-record : goal.invariant-loop-record
invariant-loop-record l = find (hints_at l.case l.hint) (map spelled (drop l.record-index l.records)) ≡ find (hints_at l.case l.hint) (map spelled l.records)

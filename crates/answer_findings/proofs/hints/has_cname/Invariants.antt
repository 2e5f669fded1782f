use Rattle.std.proofs.Common.{◌≡◌, drop, map}
use Rattle.std.specs.List.{list_any}
use Rattle.messages.specs.Record.{spelled}
use Rattle.answer_findings.specs.declared.hints.Hint.TheVariants as hint
use Rattle.answer_findings.specs.Hints.{hints_at}
use Rattle.answer_findings.proofs.hints.has_cname.Given as goal

abbrev pub invariant-loop-record : goal.invariant-loop-record
invariant-loop-record l =
    list_any (hints_at l.case hint.Cname) (map spelled (drop l.record-index l.records)) ≡ list_any (hints_at l.case hint.Cname) (map spelled l.records)

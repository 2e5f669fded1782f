use Rattle.std.proofs.Common.{◌≡◌, drop}
use Rattle.std.specs.List.{list_any}
use Rattle.answer_extended_errors.specs.Extended.{is_made}
use Rattle.answer_extended_errors.proofs.delegation.is_any_made.Given as goal

abbrev pub invariant-loop-record : goal.invariant-loop-record
invariant-loop-record g l =
    let made = is_made (g.C.Checks.answers l.checks) in
    list_any made (drop l.record-index l.ds) ≡ list_any made l.ds

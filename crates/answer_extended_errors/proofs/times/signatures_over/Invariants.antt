use Rattle.std.proofs.Common.{◌≡◌, ◌++◌, drop, map}
use Rattle.std.specs.List.{filter_map}
use Rattle.definitions.specs.Limits.{pointer_limit}
use Rattle.messages.specs.Record.{fields_of, spelled}
use Rattle.answer_extended_errors.specs.Extended.{signature_at}
use Rattle.answer_extended_errors.specs.Groups.{is_among}
use Rattle.answer_extended_errors.proofs.times.signatures_over.Given as goal

abbrev pub invariant-loop-record : goal.invariant-loop-record
invariant-loop-record l =
    let f = signature_at pointer_limit l.message l.apex (is_among l.groups) in
    map fields_of l.signatures.items ++ filter_map f (map spelled (drop l.record-index l.records)) ≡ filter_map f (map spelled l.records)

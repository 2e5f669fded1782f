use Rattle.std.proofs.Common.{◌≡◌, ◌++◌, drop, map}
use Rattle.messages.specs.Record.{spelled}
use Rattle.answer_verified_records.specs.Groups.{is_of_verified}
use Rattle.answer_verified_records.specs.Records.{numbers_from}
use Rattle.answer_verified_records.proofs.answer.numbers_of_verified.Given as goal

abbrev pub invariant-loop-number : goal.invariant-loop-number
invariant-loop-number l =
    let f = is_of_verified l.message l.groups in
    l.numbers.items ++ numbers_from f l.number (map spelled (drop l.number l.records)) ≡ numbers_from f 0 (map spelled l.records)

use Rattle.std.proofs.Common.{◌≡◌, drop, map}
use Rattle.std.specs.List.{filter_map}
use Rattle.answer_judge_facts.specs.Validity.{least, wait_in}
use Rattle.messages.specs.Record.{spelled}
use Rattle.answer_judge_facts.proofs.validity.least_wait.Given as goal

abbrev pub invariant-loop-record : goal.invariant-loop-record
invariant-loop-record l =
    let f = wait_in l.moment l.message l.groups in
    least l.least (filter_map f (map spelled (drop l.record-index l.records))) ≡ least l.start (filter_map f (map spelled l.records))

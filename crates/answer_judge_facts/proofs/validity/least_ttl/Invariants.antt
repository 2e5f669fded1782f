use Rattle.std.proofs.Common.{◌≡◌, drop, map}
use Rattle.std.specs.List.{filter_map}
use Rattle.answer_judge_facts.specs.Validity.{least, own_in}
use Rattle.messages.specs.Record.{spelled}
use Rattle.answer_judge_facts.proofs.validity.least_ttl.Given as goal

abbrev pub invariant-loop-record : goal.invariant-loop-record
invariant-loop-record l = least l.least (filter_map (own_in l.groups) (map spelled (drop l.record-index l.records))) ≡ least l.start (filter_map (own_in l.groups) (map spelled l.records))

use Rattle.std.proofs.Common.{◌≡◌, ◌++◌, drop, map, filter}
use Rattle.messages.specs.Record.{spelled}
use Rattle.answer_judge_facts.specs.Marked.{is_chain}
use Rattle.answer_judge_facts.proofs.facts.chain_records.Given as goal

abbrev pub invariant-loop-record : goal.invariant-loop-record
invariant-loop-record l = map spelled l.chained.items ++ filter is_chain (map spelled (drop l.record-index l.records)) ≡ filter is_chain (map spelled l.records)

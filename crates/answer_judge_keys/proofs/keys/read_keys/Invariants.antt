use Rattle.std.proofs.Common.{◌≡◌, ◌++◌, drop, map}
use Rattle.answer_judge_keys.specs.DnskeyAnswer.{keys_in}
use Rattle.messages.specs.Record.{spelled}
use Rattle.answer_judge_keys.proofs.keys.read_keys.Given as goal

abbrev pub invariant-loop-record : goal.invariant-loop-record
invariant-loop-record l = l.keys.items ++ keys_in l.message l.apex (map spelled (drop l.record-index l.records)) ≡ keys_in l.message l.apex (map spelled l.records)

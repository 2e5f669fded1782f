use Rattle.std.proofs.Common.{◌≡◌, drop}
use Rattle.answer_judge_table.specs.Table.{told, tried}
use Rattle.answer_judge_table.proofs.checked.entry_of.Given as goal

abbrev pub invariant-loop-entry : goal.invariant-loop-entry
invariant-loop-entry l = let t = tried l.key l.octets l.signature in told (drop l.entry-index l.table) t ≡ told l.table t

use Rattle.std.proofs.Common.{◌≡◌, ◌++◌, drop}
use Rattle.answer_judge_keys.proofs.key_index.copied_keys.Given as goal

abbrev pub invariant-loop-key : goal.invariant-loop-key
invariant-loop-key l = l.copies.items ++ drop l.key-index l.keys ≡ l.keys

use Rattle.std.proofs.Common.{◌≡◌, ◌-◌, ◌≤◌, drop, length}
use Rattle.answer_judge_keys.proofs.KeyClashes.{row}
use Rattle.answer_judge_keys.proofs.key_index.has_clashing_neighbors.Given as goal

abbrev pub invariant-loop-place : goal.invariant-loop-place
invariant-loop-place l = (row (drop (l.place - 1) l.ranked) ≡ row l.ranked) × (1 ≤ l.place)

abbrev pub decreases-loop-place : goal.decreases-loop-place
decreases-loop-place l = length l.ranked - l.place

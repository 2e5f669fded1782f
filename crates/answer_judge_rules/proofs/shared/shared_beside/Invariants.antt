use Rattle.std.proofs.Common.{◌≡◌, ◌+◌, ◌≤◌, length}
use Rattle.answer_judge_rules.specs.Enclosers.{shared}
use Rattle.answer_judge_rules.proofs.SharedLabels.{run}
use Rattle.answer_judge_rules.proofs.shared.shared_beside.Given as goal

abbrev pub invariant-loop-label : goal.invariant-loop-label
invariant-loop-label g l = record {
  value : run l.shared l.labels l.others ≡ shared l.fn.labels l.fn.others;
  even : length l.labels ≡ length l.others;
  bound : l.shared + length l.labels ≤ l.count;
}

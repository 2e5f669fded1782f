use Rattle.std.proofs.Common.{◌≡◌}
use Rattle.answer_judge_octets.specs.Crowded.{has_more_labels}
use Rattle.answer_judge_octets.proofs.crowded.has_more_labels.Given as goal

abbrev pub invariant-loop-record : goal.invariant-loop-record
invariant-loop-record l = has_more_labels l.room l.records ≡ has_more_labels l.fn.most l.fn.records

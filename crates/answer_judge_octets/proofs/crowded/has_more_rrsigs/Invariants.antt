use Rattle.std.proofs.Common.{◌≡◌}
use Rattle.answer_judge_octets.specs.Crowded.{has_more_rrsigs}
use Rattle.answer_judge_octets.proofs.crowded.has_more_rrsigs.Given as goal

abbrev pub invariant-loop-record : goal.invariant-loop-record
invariant-loop-record l = has_more_rrsigs l.room l.records ≡ has_more_rrsigs l.fn.most l.fn.records

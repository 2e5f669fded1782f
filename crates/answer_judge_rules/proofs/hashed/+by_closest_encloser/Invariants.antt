use Rattle.std.proofs.Common.{length}
use Rattle.answer_judge_rules.proofs.hashed.+by_closest_encloser.Given as goal

abbrev pub decreases-by_closest_encloser : goal.decreases-by_closest_encloser
decreases-by_closest_encloser g l = length l.below.now.name

use Rattle.std.proofs.Common.{◌∙◌}
use Rattle.answer_judge_octets.proofs.Standing.{found_stands}
use Rattle.answer_judge_octets.proofs.limit.stands_in.Goals as goal

pub returns : goal.returns
returns c = c.is_some.ensures ∙ found_stands c.args.octets.now c.args.part.now c.find.result c.find.ensures

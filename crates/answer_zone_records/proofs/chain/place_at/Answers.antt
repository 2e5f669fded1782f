use Rattle.std.proofs.Common.{arith}
use Rattle.answer_zone_records.proofs.Rounds.{speaks_at_place, speaks_nowhere}
use Rattle.answer_zone_records.proofs.chain.place_at.Goals as goal

pub returns-then-count-gt0-clause-place : goal.returns-then-count-gt0-clause-place
returns-then-count-gt0-clause-place c = λ apex r. speaks_at_place apex c.args.name.now c.args.chain.now r c.count_up_to-count.result c.count_up_to-count.ensures.bound c.count_up_to-count.ensures.cut c.if-count-gt0.true

pub returns-else-count-gt0-clause-place : goal.returns-else-count-gt0-clause-place
returns-else-count-gt0-clause-place c = λ apex r. speaks_nowhere apex c.args.name.now c.args.chain.now r c.count_up_to-count.result c.count_up_to-count.ensures.bound c.count_up_to-count.ensures.cut (omega (arith, c.if-count-gt0.false))

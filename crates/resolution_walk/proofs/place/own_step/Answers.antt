use Rattle.resolution_walk.proofs.Stopping.{own_told}
use Rattle.resolution_walk.proofs.place.own_step.Goals as goal

pub returns-clause-told : goal.returns-clause-told
returns-clause-told g c = own_told c.args.evidence.now _ c.args.case.now c.in_ok-judged_step.judged_step c.unless_memory_lacked.result c.evidence.view_is c.in_ok-judged_step.ensures.told c.unless_memory_lacked.ensures.same

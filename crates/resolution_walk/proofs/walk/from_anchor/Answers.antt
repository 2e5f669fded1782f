use Rattle.messages.specs.Questions.{asked_of}
use Rattle.resolution_walk.proofs.Hashed.{alias_counts, same_counts}
use Rattle.resolution_walk.proofs.Stopping.{alias_led}
use Rattle.resolution_walk.proofs.walk.from_anchor.Goals as goal

pub returns-clause-stops : goal.returns-clause-stops
returns-clause-stops g c = alias_led c.args.evidence.now _ (asked_of c.args.question.now) c.args.cuts c.args.counts c.in_ok-end.end c.alias_of.result c.evidence.view_is c.requires c.in_ok-end.ensures.stops c.alias_of.ensures

pub returns-clause-hashed : goal.returns-clause-hashed
returns-clause-hashed g c = same_counts _ _ c.args.counts c.in_ok-end.end.counts _ (alias_counts c.in_ok-end.end c.alias_of.result c.alias_of.ensures) c.in_ok-end.ensures.hashed

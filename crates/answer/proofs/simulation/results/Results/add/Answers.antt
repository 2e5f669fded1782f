use Rattle.std.proofs.Common.{◌∷◌, []}
use Rattle.answer.proofs.ShownThings.{more_outcomes}
use Rattle.answer.proofs.simulation.results.Results.add.Goals as goal

pub returns : goal.returns
returns c = (more_outcomes c.self.inside.outcomes.items c.push.new.self.items c.self.inside.shown.items c.args.self.now (c.args.outcome ∷ []) c.self.view_is c.self.invariant c.in_ok-push.ensures.items).0

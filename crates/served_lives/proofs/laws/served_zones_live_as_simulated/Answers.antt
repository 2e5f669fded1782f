use Rattle.served_lives.proofs.Lives.{lives_are_simulations}
use Rattle.served_lives.proofs.laws.served_zones_live_as_simulated.Goals as goal

pub returns : goal.returns
returns c = lives_are_simulations

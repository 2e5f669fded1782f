use Rattle.clock_laws.proofs.Held as held
use Rattle.clock_laws.proofs.laws.held_things_are_unretired.Goals as goal

pub returns : goal.returns
returns c = held.unretired

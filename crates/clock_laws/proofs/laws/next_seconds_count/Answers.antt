use Rattle.clock_laws.proofs.Held as held
use Rattle.clock_laws.proofs.laws.next_seconds_count.Goals as goal

pub returns : goal.returns
returns c = record { counts = held.counts; waits = held.waits }

use Rattle.walk_laws.proofs.Few.{trees_want_few, zones_are_few}
use Rattle.walk_laws.proofs.laws.trees_want_few.Goals as goal

pub returns : goal.returns
returns c = record { messages = trees_want_few c.trees_say_one.ensures; zones = zones_are_few }

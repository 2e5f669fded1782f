use Rattle.message_laws.proofs.ShownAlike.{alike_shows_alike}
use Rattle.message_laws.proofs.laws.alike_shows_alike.Goals as goal

pub returns : goal.returns
returns c = alike_shows_alike

use Rattle.reply_laws.proofs.Told.{told_alike}
use Rattle.reply_laws.proofs.laws.same_requests_are_told_alike.Goals as goal

pub returns : goal.returns
returns c = told_alike

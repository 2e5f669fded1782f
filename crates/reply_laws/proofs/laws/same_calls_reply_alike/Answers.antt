use Rattle.reply_laws.proofs.Told.{replies_alike}
use Rattle.reply_laws.proofs.laws.same_calls_reply_alike.Goals as goal

pub returns : goal.returns
returns c = replies_alike

use Rattle.served_lives.proofs.Made.{plain_lists_accepted}
use Rattle.served_lives.proofs.laws.plain_lists_are_accepted.Goals as goal

pub returns : goal.returns
returns c = plain_lists_accepted

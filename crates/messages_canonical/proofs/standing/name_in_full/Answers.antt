use Rattle.std.proofs.Common.{arith}
use Rattle.messages_canonical.proofs.NamesInFull.{within_limit}
use Rattle.messages_canonical.proofs.standing.name_in_full.Goals as goal

pub returns : goal.returns
returns c = within_limit c.args.message.now c.args.limit c.args.at c.in_ok-behind.behind c.in_ok-behind.ensures (omega (arith, c.if-behind-limit.false))

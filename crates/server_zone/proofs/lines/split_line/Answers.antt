use Rattle.std.proofs.Common.{sym, ◌∙◌}
use Rattle.server_zone.proofs.LineLemmas.{feed_at, no_feed_at}
use Rattle.server_zone.proofs.lines.split_line.Goals as goal

pub returns-in-Some : goal.returns-in-Some
returns-in-Some c = feed_at c.args.octets.now c.in-Some.end (sym c.first_feed.ensures ∙ c.in-Some.is)

pub returns-in-None : goal.returns-in-None
returns-in-None c = no_feed_at c.args.octets.now (sym c.first_feed.ensures ∙ c.in-None.is)

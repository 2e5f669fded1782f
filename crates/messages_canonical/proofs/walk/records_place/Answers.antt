use Rattle.messages_canonical.proofs.Seen.{no_place, place}
use Rattle.messages_canonical.proofs.walk.records_place.Goals as goal

pub returns-in_err-end : goal.returns-in_err-end
returns-in_err-end c read h = absurd (no_place c.numbers_read_alike.ensures c.args.message.now c.in_err-end.ensures.ends read h)

pub returns : goal.returns
returns c = place c.numbers_read_alike.ensures c.args.message.now c.in_ok-count.count c.in_ok-end.end c.in_ok-count.ensures.there c.in_ok-count.ensures.sum c.in_ok-end.ensures.ends

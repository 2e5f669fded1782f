use Rattle.std.proofs.Common.{◌≡◌, length, rules}
use Rattle.answer_judge_octets.specs.Replying.{AsksOrStops, reply_seen}
use Rattle.resolution_octets.specs.Saying.{are_too_many}
use Rattle.resolution_octets.proofs.Asking.{asks_in}
use Rattle.resolution_octets.proofs.walk_reply.asked_for.Goals as goal

pub returns : goal.returns
returns c =
    let reply = reply_seen c.in_ok-reply.reply in
    let many : c.are_too_many-stops.result ≡ are_too_many c.args.most c.args.checked (length c.args.asks.now) = search rules in
    let asked : AsksOrStops c.are_too_many-stops.result c.args.asks.now reply = search rules in
    asks_in c.args.asks.now c.are_too_many-stops.result _ _ _ reply (reply_seen c.counted.result) many asked c.counted.ensures

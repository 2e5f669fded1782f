use Rattle.std.proofs.Common.{◌≡◌, ◌+◌, rules}
use Rattle.answer_judge_octets.specs.Replying.{is_carried, most_of}
use Rattle.answer_judge_octets.proofs.Standing.{have_room}
use Rattle.answer_judge_octets.proofs.limit.are_too_many.Goals as goal

pub returns-else-table-room : goal.returns-else-table-room
returns-else-table-room c =
    let rest : most_of c.args.most ≡ c.in-Some.room + c.args.more = search rules in
    let h = c.args.case.now in
    have_room (is_carried h.dnskey_bytes h.answer_bytes) c.args.table.now c.in-Some.room (most_of c.args.most) c.args.more c.if-table-room.false rest

use Rattle.std.proofs.Common.{arith, rules}
use Rattle.answer_terms.specs.Served.{written_rr}
use Rattle.answer_publisher.proofs.Refusals.{long_data, room_more}
use Rattle.answer_publisher.proofs.compose.Section.push.Goals as goal

pub returns-then-rdata-gt-LONGEST-clause-refused : goal.returns-then-rdata-gt-LONGEST-clause-refused
returns-then-rdata-gt-LONGEST-clause-refused c = λ room. long_data c.args.self.now.octets.items (written_rr c.args.owner.now c.args.rtype c.args.ttl c.args.rdata.now) (omega arith)

pub returns-clause-room : goal.returns-clause-room
returns-clause-room c = λ room.
    room_more c.args.self.now.octets.items c.push_record.new.out.items c.args.self.now.count c.in-Some.count (written_rr c.args.owner.now c.args.rtype c.args.ttl c.args.rdata.now) (search rules) (search rules) room

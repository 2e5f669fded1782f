use Rattle.std.proofs.Common.{ap, arith, length}
use Rattle.messages.proofs.MessageWritten.{wire-length}
use Rattle.server_responses.proofs.redirects.push_cname.Goals as goal

pub push_record-requires : goal.push_record-requires
push_record-requires c = omega (arith, c.keeps.ensures.short, ap length c.as_slice.ensures.value, wire-length c.args.target.now)

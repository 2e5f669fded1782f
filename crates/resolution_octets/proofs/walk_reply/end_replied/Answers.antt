use Rattle.std.proofs.Common.{rules}
use Rattle.resolution_octets.proofs.walk_reply.end_replied.Goals as goal

pub returns : goal.returns
returns c = record { error = c.in_ok-error.error; is_error = c.in_ok-error.ensures; is = search rules }

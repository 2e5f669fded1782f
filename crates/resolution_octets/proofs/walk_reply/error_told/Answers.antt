use Rattle.std.proofs.Common.{sym, ◌∙◌}
use Rattle.resolution_octets.specs.Saying.{OfAnswer, OfQuestion}
use Rattle.resolution_octets.proofs.walk_reply.error_told.Goals as goal

pub returns-then-not-is_empty : goal.returns-then-not-is_empty
returns-then-not-is_empty c = OfAnswer c.in_ok-named.ensures (sym c.is_empty.ensures ∙ c.if-not-is_empty.true)

pub returns : goal.returns
returns c = OfQuestion c.in_ok-named.named c.in_ok-own.own c.in_ok-named.ensures (sym c.is_empty.ensures ∙ c.if-not-is_empty.false) c.in_ok-own.ensures c.untimely_or.ensures

use Rattle.std.proofs.Common.{IfOk, subst}
use Rattle.messages.specs.Message.{Asked}
use Rattle.resolution_octets.specs.Saying.{IsErrorOf}
use Rattle.resolution_octets.proofs.walk_reply.error_of_answer.Goals as goal

pub returns : goal.returns
returns c =
    let e = c.args.evidence.now in
    let answer = c.args.answer.now in
    subst (λ (q : Asked). IfOk c.refused.result (IsErrorOf e answer.zone.now answer.ds.now q answer.refusal)) c.in_ok-sought.ensures c.refused.ensures

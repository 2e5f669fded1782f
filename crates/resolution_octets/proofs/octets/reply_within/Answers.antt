use Rattle.std.proofs.Common.{◌≡◌, ℕ, IfOk, length, rules, subst}
use Rattle.answer_judge_octets.specs.Replying.{reply_seen}
use Rattle.resolution_octets.specs.ReadEvidence.{asked_in}
use Rattle.resolution_octets.specs.Saying.{IsSaid}
use Rattle.resolution_octets.specs.declared.walk_reply.ReplyLimits.{ReplyLimits}
use Rattle.resolution_octets.proofs.octets.reply_within.Goals as goal

pub returns : goal.returns
returns c =
    let case = c.args.handed_in.now in
    let read = c.args.read.now in
    let count : c.len-checked.result ≡ length read.table.items = search rules in
    subst (λ (l : ReplyLimits). IfOk c.reply_of_walk.result (λ x. IsSaid case.moment l c.args.evidence.now (asked_in read) c.args.walk.now (reply_seen x)))
    (λ i. record { signatures = case.max_signatures; checked = count i; work = c.work_in.ensures i }) c.reply_of_walk.ensures

use Rattle.std.proofs.Common.{inr, subst₂}
use Rattle.answer_judge_octets.specs.Replying.{Says, reply_seen}
use Rattle.answer_judge_octets.specs.ReadCases.{judge_input_of}
use Rattle.answer_judge_octets.proofs.octets.reply.Goals as goal

pub returns-in-Ok-reply_of-clause-replies : goal.returns-in-Ok-reply_of-clause-replies
returns-in-Ok-reply_of-clause-replies g c =
    let case = c.args.case.now in
    let read = c.in-Ok.read in
    let reads = c.in-Ok.ensures.ok in
    let h = judge_input_of case read in
    inr record {
      judge_input = h;
      table = read.table.items;
      spelled = reads.spelled;
      says = subst₂ (λ error places. Says case error places h read.table.items (reply_seen c.in-Ok-reply_of.reply)) reads.error_is reads.places_are c.in-Ok-reply_of.ensures.says;
    }

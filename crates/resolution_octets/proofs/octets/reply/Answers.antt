use Rattle.std.proofs.Common.{inr}
use Rattle.resolution_octets.specs.ReadEvidence.{asked_in, given_of}
use Rattle.resolution_octets.proofs.octets.reply.Goals as goal

pub returns-in-Ok-walked-clause-replies : goal.returns-in-Ok-walked-clause-replies
returns-in-Ok-walked-clause-replies g c =
    let case = c.args.evidence.now in
    let read = c.in-Ok.read in
    inr record {
      evidence = given_of case read;
      asked = asked_in read;
      spelled = c.in-Ok.ensures.ok;
      says = c.in-Ok-walked.ensures.says;
    }

use Rattle.messages.specs.Questions.{asked_of}
use Rattle.resolution_octets.proofs.Refused.{error_in, no_error}
use Rattle.resolution_octets.proofs.walk_reply.refused.Goals as goal

pub returns-in-Some : goal.returns-in-Some
returns-in-Some c =
    error_in c.args.evidence.now _ c.args.zone.now c.args.ds.now (asked_of c.args.sought.now) c.in-Some.case c.args.refusal c.error_of.result c.evidence.view_is c.in-Some.ensures.some c.error_of.ensures

pub returns-in-None : goal.returns-in-None
returns-in-None c = no_error c.args.evidence.now c.args.zone.now c.args.ds.now (asked_of c.args.sought.now) c.args.refusal c.in-None.ensures.none

use Rattle.std.proofs.Common.{[], length, rules, subst}
use Rattle.evidence_laws.specs.Given.{Given}
use Rattle.resolution_walk.specs.Ended.{IsWalked, LastsIfSaid}
use Rattle.resolution_walk.specs.Stopping.{StopsWithin}
use Rattle.resolution_walk.specs.Truth.{WalksTruly}
use Rattle.resolution_octets.specs.Limiting.{limits_of, reply_limits_of}
use Rattle.resolution_octets.specs.ReadEvidence.{asked_in}
use Rattle.resolution_octets.specs.Replying.{IsWalk}
use Rattle.resolution_octets.proofs.Hashed.{reply_hashed}
use Rattle.resolution_octets.proofs.Walked.{says_in}
use Rattle.resolution_octets.proofs.octets.walked_reply.Goals as goal

pub returns-clause-says : goal.returns-clause-says
returns-clause-says g c =
    let case = c.args.handed_in.now in
    let read = c.args.read.now in
    let asked = asked_in read in
    let walk = c.in_ok-walk.walk in
    let walked : IsWalked c.args.evidence.now asked walk = search rules in
    let stops : StopsWithin c.args.evidence.now asked (limits_of case) walk = search rules in
    let lasts : LastsIfSaid walk = search rules in
    let honest : WalksTruly c.args.evidence.now asked walk = search rules in
    says_in case read c.args.evidence.now walk c.reply_within.result c.reply_within.ensures c.requires
    (subst (λ (g : Given). IsWalk g asked (limits_of case) walk) c.requires (record { walked = walked; stops = stops; lasts = lasts; honest = honest }))

pub returns-clause-hashed : goal.returns-clause-hashed
returns-clause-hashed g c =
    let case = c.args.handed_in.now in
    let read = c.args.read.now in
    let limits = reply_limits_of case (length read.table.items) in
    reply_hashed case.moment limits c.args.evidence.now (asked_in read) c.in_ok-walk.walk _ _ c.reply_within.result c.reply_within.ensures c.in_ok-walk.ensures.hashed

use Rattle.std.proofs.Common.{◌≡◌, true, IfOk, subst}
use Rattle.evidence_laws.specs.Given.{IsOf}
use Rattle.resolution_walk.specs.Query.{Query}
use Rattle.resolution_walk.specs.Stopping.{WantsLacking}
use Rattle.resolution_walk.specs.Wanted.{is_lacking}
use Rattle.resolution_walk.specs.declared.ending.JudgedHop.{JudgedHop}
use Rattle.resolution_walk.proofs.Hashed.{kept_counts, no_more}
use Rattle.resolution_walk.proofs.Stopping.{not_judged_in, wants_own_in}
use Rattle.resolution_walk.proofs.hops.in_zone.Goals as goal

pub by_answer-requires : goal.by_answer-requires
by_answer-requires g c = subst (λ (x : Query). IsOf c.args.evidence.now x.zone x.ds x.asked c.in-Some.case) c.query.view_is c.in-Some.ensures.some

pub returns-in-None : goal.returns-in-None
returns-in-None g c =
    let e = c.args.evidence.now in
    let q = c.args.query.now in
    let r = c.wanting.result in
    let lacks = subst (λ (x : Query). is_lacking e x.zone x.asked ≡ true) c.query.view_is c.in-None.ensures.none in
    let wants = subst (λ (x : Query). IfOk r (λ (t : JudgedHop). WantsLacking e x.zone x.asked t.hop)) c.query.view_is c.wanting.ensures.wants in
    record { stops = wants_own_in e q r lacks wants; counted = not_judged_in e q c.args.counts r lacks c.wanting.ensures.counted; hashed = kept_counts _ _ c.args.counts r (λ (t : JudgedHop). t.counts) c.args.counts (no_more _ c.args.counts) c.wanting.ensures.counted }

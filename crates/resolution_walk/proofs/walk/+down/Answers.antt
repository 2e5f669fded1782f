use Rattle.std.proofs.Common.{List, None, arith, subst}
use Rattle.definitions.specs.Dnskey.{Ds}
use Rattle.messages.specs.Questions.{asked_of}
use Rattle.resolution_walk.specs.Judged.{AreJudged, asks_in}
use Rattle.resolution_walk.specs.Query.{Query}
use Rattle.resolution_walk.specs.Stopping.{StopsBelowIn, HopStops}
use Rattle.resolution_walk.specs.declared.ending.Hop.{Hop}
use Rattle.evidence_laws.proofs.Hashed.{then_counted}
use Rattle.resolution_walk.proofs.Hashed.{no_more, same_counts}
use Rattle.resolution_walk.proofs.Stopping.{none_left, one_less_in, stops_below, stops_here}
use Rattle.resolution_walk.proofs.Turning.{delegated}
use Rattle.resolution_walk.proofs.walk.+down.Goals as goal

pub descend-returns-in-Ends : goal.descend-returns-in-Ends
descend-returns-in-Ends g t c =
    let e = c.args.evidence.now in
    let q = c.args.query.now in
    let judged_hop = c.in_ok-judged_hop.judged_hop in
    let stops = subst (λ (g : Hop). HopStops e q g judged_hop.validity) c.in-Ends.is c.in_ok-judged_hop.ensures.stops in
    let counted = subst (λ (g : Hop). AreJudged e q.asked q.zone q.ds (asks_in g) c.args.counts judged_hop.counts) c.in-Ends.is c.in_ok-judged_hop.ensures.counted in
    record { stops = stops_here e q c.in-Ends.ending c.args.cuts c.args.counts judged_hop.counts judged_hop.validity counted stops; hashed = c.in_ok-judged_hop.ensures.hashed }

pub descend-returns-in_ok-end-in-Down : goal.descend-returns-in_ok-end-in-Down
descend-returns-in_ok-end-in-Down g t c =
    let e = c.args.evidence.now in
    let q = c.args.query.now in
    let judged_hop = c.in_ok-judged_hop.judged_hop in
    let cut = c.in-Down.zone in
    let below = c.in-Down.ds.items in
    let end = c.in_ok-end-in-Down.end in
    let kept = c.validity_with.ensures in
    let way = subst (λ (g : Hop). HopStops e q g judged_hop.validity) c.in-Down.is c.in_ok-judged_hop.ensures.stops in
    let counted = subst (λ (g : Hop). AreJudged e q.asked q.zone q.ds (asks_in g) c.args.counts judged_hop.counts) c.in-Down.is c.in_ok-judged_hop.ensures.counted in
    let asked = asked_of c.query.inside.question.now in
    let stops : StopsBelowIn e (delegated q cut below) c.args.cuts judged_hop.counts end =
    subst (λ (x : Query). StopsBelowIn e (delegated x cut below) c.args.cuts judged_hop.counts end) c.query.view_is
    (subst (λ (d : List Ds). StopsBelowIn e (record { zone = cut; ds = d; asked = asked }) c.args.cuts judged_hop.counts end) c.as_slice.ensures.value c.in_ok-end-in-Down.ensures.stops) in
    record {
      stops = stops_below e q c.args.cuts cut below judged_hop.validity c.args.counts judged_hop.counts end c.validity_with.result counted way stops kept.ending kept.counts kept.lasts;
      hashed = same_counts _ _ c.args.counts end.counts _ kept.counts (then_counted _ _ _ _ _ _ c.in_ok-judged_hop.ensures.hashed c.in_ok-end-in-Down.ensures.hashed);
    }

pub descend_below-returns-then-cuts-eq0 : goal.descend_below-returns-then-cuts-eq0
descend_below-returns-then-cuts-eq0 g t c = record { stops = none_left c.args.evidence.now c.args.query.now c.args.cuts c.args.counts None c.if-cuts-eq0.true; hashed = no_more _ c.args.counts }

pub descend_below-returns-else-cuts-eq0 : goal.descend_below-returns-else-cuts-eq0
descend_below-returns-else-cuts-eq0 g t c = record { stops = one_less_in c.args.evidence.now c.args.query.now c.args.cuts c.args.counts c.descend.result (omega (arith, c.if-cuts-eq0.false)) c.descend.ensures.stops; hashed = c.descend.ensures.hashed }

use Rattle.std.proofs.Common.{false, Err, Ok, Result, ap, subst, sym, ◌∙◌}
use Rattle.std.specs.Prelude.{IfErr}
use Rattle.evidence_laws.specs.Counted.{plus}
use Rattle.resolution_walk.specs.Judged.{AreJudged, IsCountedBehind, IsLast, counts_in}
use Rattle.resolution_walk.specs.declared.ending.JudgedHop.{JudgedHop}
use Rattle.resolution_walk.specs.declared.ending.Uncut.{Uncut}
use Rattle.resolution_walk.proofs.Hashed.{from_same, kept_counts, same_counts}
use Rattle.resolution_walk.proofs.Stopping.{behind_counted, untold_counted_in, untold_stops_in}
use Rattle.resolution_walk.proofs.hops.search_between.Goals as goal

pub returns-in-Err : goal.returns-in-Err
returns-in-Err g c =
    let e = c.args.evidence.now in
    let q = c.args.query.now in
    let refusal = c.args.untold.refusal in
    let own = c.args.untold.counts in
    let sums = c.plus-sums.result in
    let r = c.untold_there.result in
    let all = c.counts-all.result in
    let behind = subst (λ (x : Result JudgedHop Uncut). IsCountedBehind e q refusal sums x) c.in-Err.is c.in_ok-way.ensures.counted in
    let counted = behind_counted e q refusal own c.args.counts sums (Err c.in-Err.uncut) c.requires c.plus-sums.ensures behind in
    let judged = subst (AreJudged e q.asked q.zone q.ds false c.args.counts) (sym c.counts-all.ensures) counted in
    let last = subst (λ (x : Result JudgedHop Uncut). IfErr x (λ y. IsLast e q.asked q.zone q.ds refusal)) c.in-Err.is c.in_ok-way.ensures.last in
    let way = c.in_ok-way.way in
    let both = plus c.args.counts own in
    let there = same_counts _ _ both (counts_in way) all (c.counts-all.ensures ∙ sym (ap counts_in c.in-Err.is)) (from_same _ _ both sums (counts_in way) c.plus-sums.ensures c.in_ok-way.ensures.hashed) in
    record {
      stops = untold_stops_in e q refusal own r c.requires last c.untold_there.ensures.hops;
      counted = untold_counted_in e q refusal c.args.counts all r judged c.untold_there.ensures.hops c.untold_there.ensures.counted;
      hashed = kept_counts _ _ both r (λ (t : JudgedHop). t.counts) all there c.untold_there.ensures.counted;
    }

pub returns-in-Ok-clause-counted : goal.returns-in-Ok-clause-counted
returns-in-Ok-clause-counted g c =
    let e = c.args.evidence.now in
    let q = c.args.query.now in
    let refusal = c.args.untold.refusal in
    let sums = c.plus-sums.result in
    let behind = subst (λ (x : Result JudgedHop Uncut). IsCountedBehind e q refusal sums x) c.in-Ok.is c.in_ok-way.ensures.counted in
    behind_counted e q refusal c.args.untold.counts c.args.counts sums (Ok c.in-Ok.judged_hop) c.requires c.plus-sums.ensures behind

pub returns-in-Ok-clause-hashed : goal.returns-in-Ok-clause-hashed
returns-in-Ok-clause-hashed g c =
    let way = c.in_ok-way.way in
    let both = plus c.args.counts c.args.untold.counts in
    same_counts _ _ both (counts_in way) c.in-Ok.judged_hop.counts (sym (ap counts_in c.in-Ok.is)) (from_same _ _ both c.plus-sums.result (counts_in way) c.plus-sums.ensures c.in_ok-way.ensures.hashed)

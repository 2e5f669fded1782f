use Rattle.std.proofs.Common.{refl}
use Rattle.evidence_laws.specs.Counted.{plus}
use Rattle.evidence_laws.specs.Told.{told}
use Rattle.resolution_walk.specs.declared.ending.JudgedHop.{JudgedHop}
use Rattle.resolution_walk.proofs.Hashed.{kept_counts, own_added, then_counts}
use Rattle.resolution_walk.proofs.Stopping.{own_counted_in, own_stops_in, untold_own}
use Rattle.resolution_walk.proofs.hops.by_answer.Goals as goal

pub returns-in-Ok : goal.returns-in-Ok
returns-in-Ok g c =
    let e = c.args.evidence.now in
    let q = c.args.query.now in
    let h = c.args.case.now in
    let t = c.in_ok-judged_step.judged_step in
    let kept = c.in_ok-judged_step.ensures in
    let now = told c.in-Ok.step in
    let r = c.judged_hop.result in
    let hop = c.judged_hop.ensures in
    record {
      stops = own_stops_in e q h t now r c.requires kept.told kept.in_memory c.in-Ok.ensures hop.hops hop.lasts;
      counted = own_counted_in e q h t now c.args.counts c.plus-sums.result r c.requires kept.told c.in-Ok.ensures c.plus-sums.ensures hop.hops hop.counted;
      hashed = kept_counts _ _ c.args.counts r (λ (t : JudgedHop). t.counts) c.plus-sums.result (own_added _ _ c.args.counts t.counts c.plus-sums.result kept.hashed c.plus-sums.ensures) hop.counted;
    }

pub search_between-requires : goal.search_between-requires
search_between-requires g c =
    let kept = c.in_ok-judged_step.ensures in
    untold_own c.args.evidence.now c.args.query.now c.args.case.now c.in_ok-judged_step.judged_step c.in-Err.refusal c.requires kept.told kept.in_memory c.in-Err.ensures

pub returns-in-Err-clause-hashed : goal.returns-in-Err-clause-hashed
returns-in-Err-clause-hashed g c =
    let own = c.in_ok-judged_step.judged_step.counts in
    then_counts _ _ c.args.counts c.search_between.result (λ (t : JudgedHop). t.counts) _ (plus c.args.counts own) (own_added _ _ c.args.counts own (plus c.args.counts own) c.in_ok-judged_step.ensures.hashed refl) c.search_between.ensures.hashed

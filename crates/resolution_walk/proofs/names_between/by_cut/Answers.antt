use Rattle.std.proofs.Common.{IfOk, Result, ap, subst, ◌∙◌}
use Rattle.std.specs.Prelude.{MatchResult}
use Rattle.messages.specs.Questions.{asked_of}
use Rattle.answer_judge.specs.Judging.{JudgeInput}
use Rattle.evidence_laws.specs.Told.{told}
use Rattle.resolution_walk.specs.Judged.{counts_in}
use Rattle.resolution_walk.specs.Query.{Query}
use Rattle.resolution_walk.specs.Stopping.{IsHopTo}
use Rattle.resolution_walk.specs.declared.ending.JudgedHop.{JudgedHop}
use Rattle.resolution_walk.specs.declared.ending.Uncut.{Uncut}
use Rattle.resolution_walk.proofs.Hashed.{kept_counts, name_added, same_counts, uncut_counts}
use Rattle.resolution_walk.proofs.Stopping.{name_judged_in, name_stops_in, uncut_judged}
use Rattle.resolution_walk.proofs.Turning.{asking}
use Rattle.resolution_walk.proofs.names_between.by_cut.Goals as goal

pub returns-in-Ok : goal.returns-in-Ok
returns-in-Ok g c =
    let e = c.args.evidence.now in
    let q = c.args.query.now in
    let h = c.args.case.now in
    let sought = h.asked in
    let t = c.in_ok-judged_step.judged_step in
    let kept = c.in_ok-judged_step.ensures in
    let now = told c.in-Ok.step in
    let r = c.judged_hop_there.result in
    let hop = c.judged_hop_there.ensures in
    let is = ap (λ (x : Query). asking x (asked_of c.case.inside.question.now)) c.query.view_is ∙ ap (λ (j : JudgeInput). asking q j.asked) c.case.view_is in
    let hops = subst (λ (x : Query). IfOk r (λ (y : Result JudgedHop Uncut). MatchResult y (λ z. IsHopTo x now z.hop) (λ n. ⊥))) is hop.hops in
    record {
      stops = name_stops_in e q sought h t now r c.requires.between c.requires.of kept.told kept.in_memory c.in-Ok.ensures hops hop.lasts;
      judged = name_judged_in e q sought h t now c.args.counts c.plus-sums.result r c.requires.of kept.told kept.in_memory c.in-Ok.ensures c.plus-sums.ensures hops hop.counted;
      hashed = kept_counts _ _ c.args.counts r counts_in c.plus-sums.result (name_added _ _ c.args.counts t.counts c.plus-sums.result kept.hashed c.plus-sums.ensures) hop.counted;
    }

pub returns-in-Err : goal.returns-in-Err
returns-in-Err g c =
    let e = c.args.evidence.now in
    let q = c.args.query.now in
    let h = c.args.case.now in
    let kept = c.in_ok-judged_step.ensures in
    let judged = uncut_judged e q h.asked h c.in_ok-judged_step.judged_step c.args.counts c.plus-sums.result c.in-Err.uncut c.requires.of kept.told kept.in_memory c.plus-sums.ensures c.in-Err.ensures in
    let own = c.in_ok-judged_step.judged_step.counts in
    let sums = c.plus-sums.result in
    record {
      stops = tt;
      judged = judged;
      hashed = same_counts _ _ c.args.counts sums _ (uncut_counts _ sums c.in-Err.uncut c.in-Err.ensures) (name_added _ _ c.args.counts own sums kept.hashed c.plus-sums.ensures);
    }

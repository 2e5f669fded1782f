use Rattle.std.proofs.Common.{◌≡◌, true, IfOk, Result, ap, subst, sym}
use Rattle.std.specs.Prelude.{MatchResult}
use Rattle.messages.specs.Message.{Asked}
use Rattle.messages.specs.Questions.{asked_of}
use Rattle.answer_judge.specs.Judging.{JudgeInput}
use Rattle.evidence_laws.specs.Given.{IsOf}
use Rattle.resolution_walk.specs.Between.{IsBetween}
use Rattle.resolution_walk.specs.Judged.{IsJudgedFor, counts_in}
use Rattle.resolution_walk.specs.Query.{Query}
use Rattle.resolution_walk.specs.Stopping.{WantsLacking}
use Rattle.resolution_walk.specs.Wanted.{is_lacking}
use Rattle.resolution_walk.specs.declared.ending.JudgedHop.{JudgedHop}
use Rattle.resolution_walk.specs.declared.ending.Uncut.{Uncut}
use Rattle.resolution_walk.proofs.Hashed.{kept_counts, no_more}
use Rattle.resolution_walk.proofs.Stopping.{lacking_there, wants_there}
use Rattle.resolution_walk.proofs.names_between.at_asked.Goals as goal

pub by_cut-requires : goal.by_cut-requires
by_cut-requires g c =
    let e = c.args.evidence.now in
    let q = c.args.query.now in
    let sought = asked_of c.args.asked.now in
    let h = c.in-Some.case in
    let of = subst (λ (x : Query). IsOf e x.zone x.ds sought h) c.query.view_is c.in-Some.ensures.some in
    let is = ap (λ (j : JudgeInput). j.asked) (sym of.is) in
    record { between = subst (IsBetween e q.asked q.zone q.ds) is c.requires; of = subst (λ (x : Asked). IsOf e q.zone q.ds x h) is of }

pub returns-in-Some-clause-judged : goal.returns-in-Some-clause-judged
returns-in-Some-clause-judged g c =
    let is = ap (λ (j : JudgeInput). j.asked) c.in-Some.ensures.some.is in
    subst (λ (x : Asked). IfOk c.by_cut.result (IsJudgedFor c.args.evidence.now c.args.query.now x c.args.counts)) is c.by_cut.ensures.judged

pub returns-in-None : goal.returns-in-None
returns-in-None g c =
    let e = c.args.evidence.now in
    let q = c.args.query.now in
    let sought = asked_of c.args.asked.now in
    let r = c.wanting_there.result in
    let lacks = subst (λ (x : Query). is_lacking e x.zone sought ≡ true) c.query.view_is c.in-None.ensures.none in
    let wants = subst (λ (x : Query). IfOk r (λ (y : Result JudgedHop Uncut). MatchResult y (λ t. WantsLacking e x.zone sought t.hop) (λ n. ⊥))) c.query.view_is c.wanting_there.ensures.wants in
    record { stops = wants_there e q sought r c.requires lacks wants; judged = lacking_there e q sought c.args.counts r lacks wants c.wanting_there.ensures.counted; hashed = kept_counts _ _ c.args.counts r counts_in c.args.counts (no_more _ c.args.counts) c.wanting_there.ensures.counted }

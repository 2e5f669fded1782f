-- Where a way stops, and what is counted, turn by turn.
use Rattle.std.proofs.Common.{◌≡◌, ℕ, suc, ◌-◌, ◌<◌, arith, Bool, true, false, List, [], ◌∷◌, ◌++◌, drop, Option, Result, Ok, Err, IfOk, refl, sym, ap, ◌∙◌, inl, inr, subst, append-nil, append_assoc}
use Rattle.std.specs.Prelude.{IfErr, MatchResult}
use Rattle.std.specs.declared.alloc.AllocError.{AllocError}
use Rattle.definitions.specs.Dnskey.{Ds}
use Rattle.definitions.specs.Name.{Name, strictly_above}
use Rattle.messages.specs.Message.{Asked}
use Rattle.answer_judge.specs.Judging.{JudgeInput}
use Rattle.answer_judge_facts.specs.declared.validity.Validity.{Validity}
use Rattle.answer_judge.specs.declared.verdict.Refusal.{Refusal}
use Rattle.evidence_laws.specs.Counted.{no_counts, plus}
use Rattle.evidence_laws.specs.Counts.{Counts}
use Rattle.evidence_laws.specs.Given.{Given, IsOf}
use Rattle.evidence_laws.specs.JudgedStep.{JudgedStep}
use Rattle.evidence_laws.specs.Lasts.{least_of}
use Rattle.evidence_laws.specs.Told.{StepSeen, TellsDown, IsJudgedCut, IsJudgedStep, at_cut, told}
use Rattle.evidence_laws.specs.Walking.{IsNameStep, IsOwnStep, ds_at, is_asked_of, renamed}
use Rattle.resolution_walk.specs.Ended.{said_of, validity_said}
use Rattle.resolution_walk.specs.Between.{AreAllUncut, DownToName, DownToMissing, AreUncut, AtZone, Itself, Next, IsAnswerUntold, IsBetween, IsNothing, IsReached, IsToldFor, IsUnanswered, LiesBetween, are_keys_refused, is_itself, lacked_memory}
use Rattle.resolution_walk.specs.Judged.{AreJudged, NotJudged, ByAnswer, OfKeys, Between, AreJudgedBetween, Throughout, UpTo, AndNext, IsCountedBehind, IsCountedBetween, IsHeardThere, IsJudgedAt, IsJudgedFor, IsLast, IsToldCut, IsToldWay, IsUncut, IsUncutTold, asks_more, asks_of, counts_in, counts_of, is_asking, is_nothing, is_uncut}
use Rattle.resolution_walk.specs.Stopping.{EndsAt, EndsHere, IsAliasOf, IsCounted, IsLed, IsNoAlias, IsStop, IsStopped, IsHopUntold, IsHopTo, Stops, Here, Below, TooDeep, StopsBehind, AtOnce, TooMany, Led, StopsBelow, NoneLeft, OneLess, StopsBelowIn, StopsIn, StopsWithin, HopStops, WantsLacking, ending_within}
use Rattle.resolution_walk.specs.Query.{Query}
use Rattle.resolution_walk.specs.Wanted.{is_lacking}
use Rattle.resolution_walk.specs.declared.ending.End.{End}
use Rattle.resolution_walk.specs.declared.ending.Ending.{Ending}
use Rattle.resolution_walk.specs.declared.ending.Ending.TheVariants as ends
use Rattle.resolution_walk.specs.declared.ending.JudgedHop.{JudgedHop}
use Rattle.resolution_walk.specs.declared.ending.Target.{Target}
use Rattle.resolution_walk.specs.declared.ending.Hop.{Hop}
use Rattle.resolution_walk.specs.declared.ending.Hop.TheVariants as hops
use Rattle.resolution_walk.specs.declared.ending.Uncut.{Uncut}
use Rattle.resolution_walk.specs.declared.ending.Uncut.TheVariants as uncut
use Rattle.resolution_walk.specs.declared.ending.Walk.{Walk}
use Rattle.resolution_walk.specs.declared.walk.Limits.{Limits}
use Rattle.resolution_walk.proofs.Cuts.{name_cut}
use Rattle.resolution_walk.proofs.Once.{once_of}
use Rattle.resolution_walk.proofs.Turning.{asking, delegated, name_stop, own_stop, turn_asks, untold_asks, untold_stop}

suc_of : (n : ℕ) → 0 < n → suc (n - 1) ≡ n
suc_of n some = omega arith

-- by evidence as it is kept, and unless memory lacked
pub own_told : (e kept : Given) (h : JudgeInput) (t : JudgedStep) (r : Result JudgedStep AllocError) → kept ≡ e → IsJudgedStep kept.algorithms kept.table h t → IfOk r (λ x. x ≡ t) → IfOk r (IsJudgedStep e.algorithms e.table h)
own_told e kept h t (Ok x) at is k = subst (IsJudgedStep e.algorithms e.table h) (sym k) (subst (λ (g : Given). IsJudgedStep g.algorithms g.table h t) at is)
own_told e kept h t (Err x) at is k = tt

pub name_told : (e kept : Given) (h : JudgeInput) (t : JudgedStep) (r : Result JudgedStep AllocError) → kept ≡ e → IsJudgedCut kept.algorithms kept.table h t → IfOk r (λ x. x ≡ t) → IfOk r (IsJudgedCut e.algorithms e.table h)
name_told e kept h t (Ok x) at is k = subst (IsJudgedCut e.algorithms e.table h) (sym k) (subst (λ (g : Given). IsJudgedCut g.algorithms g.table h t) at is)
name_told e kept h t (Err x) at is k = tt

module _ (e : Given) (q : Query) where
  -- ---- what is wanted

  wants_own : (t : Hop) (l : Option Validity) → is_lacking e q.zone q.asked ≡ true → WantsLacking e q.zone q.asked t → HopStops e q t l
  wants_own (hops.Ends (ends.Wants ws)) l lacks k = record { sought = q.asked; is_sought = inl refl; some = lacks; are = k; once = once_of e q.zone q.asked ws.items k }
  wants_own _ l lacks k = absurd k

  wants_at : (sought : Asked) (t : Hop) (l : Option Validity) → IsBetween e q.asked q.zone q.ds sought → is_lacking e q.zone sought ≡ true → WantsLacking e q.zone sought t → HopStops e q t l
  wants_at sought (hops.Ends (ends.Wants ws)) l between lacks k = record { sought = sought; is_sought = inr between; some = lacks; are = k; once = once_of e q.zone sought ws.items k }
  wants_at sought _ l between lacks k = absurd k

  pub wants_own_in : (r : Result JudgedHop AllocError) → is_lacking e q.zone q.asked ≡ true → IfOk r (λ t. WantsLacking e q.zone q.asked t.hop) → IfOk r (IsStop e q)
  wants_own_in (Ok t) lacks k = wants_own t.hop t.validity lacks k
  wants_own_in (Err x) lacks k = tt

  pub not_judged_in : (before : Counts) (r : Result JudgedHop AllocError) → is_lacking e q.zone q.asked ≡ true → IfOk r (λ t. t.counts ≡ before) → IfOk r (IsCounted e q before)
  not_judged_in before (Ok t) lacks k = NotJudged lacks k
  not_judged_in before (Err x) lacks k = tt

  pub wants_there : (sought : Asked) (r : Result (Result JudgedHop Uncut) AllocError) → IsBetween e q.asked q.zone q.ds sought → is_lacking e q.zone sought ≡ true
      → IfOk r (λ x. MatchResult x (λ t. WantsLacking e q.zone sought t.hop) (λ n. ⊥)) → IfOk r (λ x. IfOk x (IsStop e q))
  wants_there sought (Ok (Ok t)) between lacks k = wants_at sought t.hop t.validity between lacks k
  wants_there sought (Ok (Err n)) between lacks k = tt
  wants_there sought (Err x) between lacks k = tt

  pub lacking_there : (sought : Asked) (before : Counts) (r : Result (Result JudgedHop Uncut) AllocError) → is_lacking e q.zone sought ≡ true
      → IfOk r (λ x. MatchResult x (λ t. WantsLacking e q.zone sought t.hop) (λ n. ⊥)) → IfOk r (λ x. counts_in x ≡ before) → IfOk r (IsJudgedFor e q sought before)
  lacking_there sought before (Ok (Ok t)) lacks wants k = inl (lacks, k)
  lacking_there sought before (Ok (Err u)) lacks wants k = absurd wants
  lacking_there sought before (Err x) lacks wants k = tt

  -- ---- by the answer to the question

  own_step : (h : JudgeInput) (t : JudgedStep) → IsOf e q.zone q.ds q.asked h → IsJudgedStep e.algorithms e.table h t → IsOwnStep e q.zone q.ds q.asked (told t.step) t.validity t.counts
  own_step h t of is = record { judged = h; of = of; told_is = is }

  -- what is told is something of the way
  way_told : (t : JudgedStep) (now : StepSeen) → IsToldWay (told t.step) now → is_nothing (told t.step) ≡ false
  way_told t now way = ap is_nothing (sym way.0) ∙ way.1

  pub own_stops_in : (h : JudgeInput) (t : JudgedStep) (now : StepSeen) (r : Result JudgedHop AllocError) → IsOf e q.zone q.ds q.asked h → IsJudgedStep e.algorithms e.table h t → lacked_memory (told t.step) ≡ false
      → IsToldWay (told t.step) now → IfOk r (λ x. IsHopTo q now x.hop) → IfOk r (λ x. x.validity ≡ t.validity) → IfOk r (IsStop e q)
  own_stops_in h t now (Ok x) of is memory way k lasts =
      let stops : HopStops e q x.hop t.validity =
      own_stop e q (told t.step) t.validity t.counts x.hop (way_told t now way) memory (own_step h t of is) (subst (λ (y : StepSeen). IsHopTo q y x.hop) way.0 k) in
      subst (HopStops e q x.hop) (sym lasts) stops
  own_stops_in h t now (Err x) of is memory way k lasts = tt

  pub own_counted_in : (h : JudgeInput) (t : JudgedStep) (now : StepSeen) (before sums : Counts) (r : Result JudgedHop AllocError) → IsOf e q.zone q.ds q.asked h → IsJudgedStep e.algorithms e.table h t
      → IsToldWay (told t.step) now → sums ≡ plus before t.counts → IfOk r (λ x. IsHopTo q now x.hop) → IfOk r (λ x. x.counts ≡ sums) → IfOk r (IsCounted e q before)
  own_counted_in h t now before sums (Ok x) of is way sum hops k =
      ByAnswer (told t.step) t.validity t.counts (way_told t now way) (ap is_asking (sym way.0) ∙ turn_asks q now x.hop hops) (own_step h t of is) (k ∙ sum)
  own_counted_in h t now before sums (Err x) of is way sum hops k = tt

  pub untold_own : (h : JudgeInput) (t : JudgedStep) (refusal : Option Refusal) → IsOf e q.zone q.ds q.asked h → IsJudgedStep e.algorithms e.table h t → lacked_memory (told t.step) ≡ false → IsNothing (told t.step) refusal
      → IsAnswerUntold e q.asked q.zone q.ds refusal t.counts
  untold_own h t refusal of is memory nothing = record { said = told t.step; nothing = nothing; in_memory = memory; validity = t.validity; step = own_step h t of is }

  pub unanswered : (refusal : Option Refusal) (own : Counts) → IsAnswerUntold e q.asked q.zone q.ds refusal own → are_keys_refused refusal ≡ false → IsUnanswered e q.asked q.zone q.ds
  unanswered refusal own k keys = record { refusal = refusal; counts = own; untold = k; keys = keys }

  pub untold_stops_in : (refusal : Option Refusal) (own : Counts) (r : Result JudgedHop AllocError) → IsAnswerUntold e q.asked q.zone q.ds refusal own → IsLast e q.asked q.zone q.ds refusal
      → IfOk r (λ x. IsHopUntold q refusal x.hop) → IfOk r (IsStop e q)
  untold_stops_in refusal own (Ok x) k last hops = untold_stop e q refusal own x.hop x.validity k last hops
  untold_stops_in refusal own (Err x) k last hops = tt

  -- counts behind such an answer
  pub behind_counted : (refusal : Option Refusal) (own before sums : Counts) (r : Result JudgedHop Uncut) → IsAnswerUntold e q.asked q.zone q.ds refusal own → sums ≡ plus before own → IsCountedBehind e q refusal sums r
      → AreJudged e q.asked q.zone q.ds (asks_of r) before (counts_in r)
  behind_counted refusal own before sums r k sum (inl (keys, same)) = OfKeys refusal own k keys (same ∙ sum)
  behind_counted refusal own before sums r k sum (inr (keys, below)) = Between refusal own k keys (subst (λ (n : Counts). AreJudgedBetween e q.asked q.zone q.ds (asks_of r) n (counts_in r)) sum below)

  pub untold_counted_in : (refusal : Option Refusal) (before after : Counts) (r : Result JudgedHop AllocError) → AreJudged e q.asked q.zone q.ds false before after → IfOk r (λ x. IsHopUntold q refusal x.hop)
      → IfOk r (λ x. x.counts ≡ after) → IfOk r (IsCounted e q before)
  untold_counted_in refusal before after (Ok x) judged hops is =
      subst (λ (b : Bool). AreJudged e q.asked q.zone q.ds b before x.counts) (untold_asks q refusal x.hop hops) (subst (AreJudged e q.asked q.zone q.ds false before) (sym is) judged)
  untold_counted_in refusal before after (Err x) judged hops is = tt

  -- ---- by an answer for DS

  name_step : (sought : Asked) (h : JudgeInput) (t : JudgedStep) → IsOf e q.zone q.ds sought h → IsJudgedCut e.algorithms e.table h t → IsNameStep e q.zone q.ds sought (told t.step) t.validity t.counts
  name_step sought h t of is = record { judged = h; of = of; told_is = is }

  cut_told : (t : JudgedStep) (now : StepSeen) → IsToldCut (told t.step) now → is_uncut (told t.step) ≡ false
  cut_told t now cut = ap is_uncut (sym cut.0) ∙ cut.1

  -- what is told of a delegation, as contracts see it
  cut_at : (sought : Asked) (h : JudgeInput) (t : JudgedStep) (now : StepSeen) → IsOf e q.zone q.ds sought h → IsJudgedCut e.algorithms e.table h t → IsToldCut (told t.step) now → now ≡ at_cut (told t.step)
  cut_at sought h t now of is cut = cut.0 ∙ name_cut e q.zone q.ds sought (told t.step) t.validity t.counts (name_step sought h t of is) (cut_told t now cut)

  pub name_stops_in : (sought : Asked) (h : JudgeInput) (t : JudgedStep) (now : StepSeen) (r : Result (Result JudgedHop Uncut) AllocError) → IsBetween e q.asked q.zone q.ds sought → IsOf e q.zone q.ds sought h
      → IsJudgedCut e.algorithms e.table h t → lacked_memory (told t.step) ≡ false → IsToldCut (told t.step) now → IfOk r (λ x. MatchResult x (λ y. IsHopTo (asking q sought) now y.hop) (λ n. ⊥))
      → IfOk r (λ x. IfOk x (λ y. y.validity ≡ t.validity)) → IfOk r (λ x. IfOk x (IsStop e q))
  name_stops_in sought h t now (Ok (Ok x)) between of is memory cut k lasts =
      let stops : HopStops e q x.hop t.validity = name_stop e q sought (told t.step) now t.validity t.counts x.hop between memory (name_step sought h t of is) cut.0 (cut_at sought h t now of is cut) k in
      subst (HopStops e q x.hop) (sym lasts) stops
  name_stops_in sought h t now (Ok (Err n)) between of is memory cut k lasts = tt
  name_stops_in sought h t now (Err x) between of is memory cut k lasts = tt

  told_for : (sought : Asked) (h : JudgeInput) (t : JudgedStep) (before after : Counts) → IsOf e q.zone q.ds sought h → IsJudgedCut e.algorithms e.table h t → lacked_memory (told t.step) ≡ false → after ≡ plus before t.counts
      → IsToldFor e q.zone q.ds sought (told t.step) before after
  told_for sought h t before after of is memory sum = record { validity = t.validity; counts = t.counts; step = name_step sought h t of is; in_memory = memory; sum = sum }

  pub name_judged_in : (sought : Asked) (h : JudgeInput) (t : JudgedStep) (now : StepSeen) (before sums : Counts) (r : Result (Result JudgedHop Uncut) AllocError) → IsOf e q.zone q.ds sought h → IsJudgedCut e.algorithms e.table h t
      → lacked_memory (told t.step) ≡ false → IsToldCut (told t.step) now → sums ≡ plus before t.counts → IfOk r (λ x. MatchResult x (λ y. IsHopTo (asking q sought) now y.hop) (λ n. ⊥)) → IfOk r (λ x. counts_in x ≡ sums)
      → IfOk r (IsJudgedFor e q sought before)
  name_judged_in sought h t now before sums (Ok (Ok x)) of is memory cut sum hops k = inr (record { said = told t.step; told = told_for sought h t before x.counts of is memory (k ∙ sum); cut = cut_told t now cut; asks_are = ap is_asking (sym cut.0) ∙ turn_asks (asking q sought) now x.hop hops })
  name_judged_in sought h t now before sums (Ok (Err u)) of is memory cut sum hops k = absurd hops
  name_judged_in sought h t now before sums (Err x) of is memory cut sum hops k = tt

  pub uncut_judged : (sought : Asked) (h : JudgeInput) (t : JudgedStep) (before sums : Counts) (u : Uncut) → IsOf e q.zone q.ds sought h → IsJudgedCut e.algorithms e.table h t → lacked_memory (told t.step) ≡ false
      → sums ≡ plus before t.counts → IsUncutTold (told t.step) sums u → IsJudgedFor e q sought before (Err u)
  uncut_judged sought h t before sums (uncut.SoFar n) of is memory sum k = subst (λ (y : StepSeen). IsToldFor e q.zone q.ds sought y before n) k.1 (told_for sought h t before n of is memory (k.0 ∙ sum))
  uncut_judged sought h t before sums (uncut.Throughout n) of is memory sum k = subst (λ (y : StepSeen). IsToldFor e q.zone q.ds sought y before n) k.1 (told_for sought h t before n of is memory (k.0 ∙ sum))

  pub judged_at : (sought : Asked) (n : Name) (before : Counts) (r : Result (Result JudgedHop Uncut) AllocError) → sought ≡ ds_at q.asked n → IfOk r (IsJudgedFor e q sought before) → IfOk r (IsJudgedFor e q (ds_at q.asked n) before)
  judged_at sought n before r is k = subst (λ (p : Asked). IfOk r (IsJudgedFor e q p before)) is k

  pub other_at : (n : Name) (before : Counts) (r : Result (Result JudgedHop Uncut) AllocError) → is_itself q.asked n ≡ false → IfOk r (IsJudgedFor e q (ds_at q.asked n) before) → IfOk r (IsJudgedAt e q n before)
  other_at n before (Ok x) other k = inr (other, k)
  other_at n before (Err x) other k = tt

  pub itself_at : (n : Name) (before : Counts) → is_itself q.asked n ≡ true → IsJudgedAt e q n before (Err (uncut.SoFar before))
  itself_at n before is = inl (is, refl)

  -- ---- down the names

  pub none_down : (n : Name) (before : Counts) → strictly_above q.zone n ≡ false → AreUncut e q.asked q.zone q.ds before n before
  none_down n before is = AtZone is refl

  pub none_at_root : (n : Name) (before : Counts) → n ≡ [] → AreUncut e q.asked q.zone q.ds before n before
  none_at_root n before is = none_down n before (ap (strictly_above q.zone) is)

  -- no delegation is at any name between: so it is where the question's name is reached
  all_uncut : (before : Counts) (u : Uncut) → IsUncut e q before q.asked.name u → AreAllUncut e q.asked q.zone q.ds before (counts_of u)
  all_uncut before (uncut.SoFar after) k = DownToName k
  all_uncut before (uncut.Throughout after) k = DownToMissing k

  pub all_last : (refusal : Option Refusal) (before : Counts) (r : Result (Result JudgedHop Uncut) AllocError) → IfOk r (λ x. IfErr x (IsUncut e q before q.asked.name)) → IfOk r (λ x. IfErr x (λ u. IsLast e q.asked q.zone q.ds refusal))
  all_last refusal before (Ok (Ok t)) k = tt
  all_last refusal before (Ok (Err u)) k = inr (before, counts_of u, all_uncut before u k)
  all_last refusal before (Err x) k = tt

  pub all_counted : (refusal : Option Refusal) (before : Counts) (r : Result (Result JudgedHop Uncut) AllocError) → are_keys_refused refusal ≡ false → IfOk r (λ x. IfOk x (IsCountedBetween e q before))
      → IfOk r (λ x. IfErr x (IsUncut e q before q.asked.name)) → IfOk r (IsCountedBehind e q refusal before)
  all_counted refusal before (Ok (Ok t)) keys counted k = inr (keys, counted)
  all_counted refusal before (Ok (Err u)) keys counted k = inr (keys, Throughout (all_uncut before u k))
  all_counted refusal before (Err x) keys counted k = tt

  module _ (n parent : Name) (before sums : Counts) (lies : LiesBetween q.zone q.asked n) (is : parent ≡ drop 1 n) (k : AreUncut e q.asked q.zone q.ds before parent sums) where
    above : AreUncut e q.asked q.zone q.ds before (drop 1 n) sums
    above = subst (λ (m : Name). AreUncut e q.asked q.zone q.ds before m sums) is k

    pub reached : IsUnanswered e q.asked q.zone q.ds → IsReached e q.asked q.zone q.ds n
    reached untold = record { lies = lies; untold = untold; before = before; after = sums; above = above }

    one_uncut : (u : Uncut) → IsJudgedAt e q n sums (Err u) → IsUncut e q before n u
    one_uncut (uncut.SoFar after) (inl itself) =
        let same : after ≡ sums = (let both : Err (uncut.SoFar after) ≡ Err (uncut.SoFar sums) = itself.1 in cc) in
        Itself itself.0 (subst (AreUncut e q.asked q.zone q.ds before (drop 1 n)) (sym same) above)
    one_uncut (uncut.SoFar after) (inr (other, told)) = Next lies other above told
    one_uncut (uncut.Throughout after) (inl itself) = let both : Err (uncut.Throughout after) ≡ Err (uncut.SoFar sums) = itself.1 in absurd cc
    one_uncut (uncut.Throughout after) (inr (other, told)) = record { name = n; lies = lies; other = other; between = sums; above = above; told = told }

    one_counted : (t : JudgedHop) → IsJudgedAt e q n sums (Ok t) → IsCountedBetween e q before t
    one_counted t (inl itself) = let both : Ok t ≡ Err (uncut.SoFar sums) = itself.1 in absurd cc
    one_counted t (inr (other, inl (lacks, same))) = UpTo n lies other (subst (AreUncut e q.asked q.zone q.ds before (drop 1 n)) (sym same) above) lacks
    one_counted t (inr (other, inr judged)) = AndNext n judged.said lies other above judged.told judged.cut judged.asks_are

    pub uncut_in : (r : Result (Result JudgedHop Uncut) AllocError) → IfOk r (IsJudgedAt e q n sums) → IfOk r (λ x. IfErr x (IsUncut e q before n))
    uncut_in (Ok (Ok t)) at = tt
    uncut_in (Ok (Err u)) at = one_uncut u at
    uncut_in (Err x) at = tt

    pub judged_in : (r : Result (Result JudgedHop Uncut) AllocError) → IfOk r (IsJudgedAt e q n sums) → IfOk r (λ x. IfOk x (IsCountedBetween e q before))
    judged_in (Ok (Ok t)) at = one_counted t at
    judged_in (Ok (Err u)) at = tt
    judged_in (Err x) at = tt

  -- ---- ends

  pub stops_here : (ending : Ending) (cuts : ℕ) (before after : Counts) (l : Option Validity) → AreJudged e q.asked q.zone q.ds (asks_more ending) before after → EndsAt e q.asked q.zone q.ds ending l
      → Stops e q.asked ending cuts q.zone q.ds before after l
  stops_here ending cuts before after l counted stops = Here counted stops

  one_below : (ending : Ending) (cuts : ℕ) (c : Name) (below : List Ds) (first rest all : Option Validity) (before between after : Counts) → AreJudged e q.asked q.zone q.ds false before between
      → IsHeardThere e q.asked q.zone q.ds (TellsDown c below) first → StopsBelow e q.asked ending cuts c below between after rest → all ≡ least_of first rest → Stops e q.asked ending cuts q.zone q.ds before after all
  one_below ending cuts c below first rest all before between after counted way (NoneLeft same is) lasts = TooDeep (subst (AreJudged e q.asked q.zone q.ds false before) (sym is) counted) way same
  one_below ending cuts c below first rest all before between after counted way (OneLess stops) lasts = Below counted way stops lasts

  pub stops_below : (cuts : ℕ) (c : Name) (below : List Ds) (first : Option Validity) (before between : Counts) (end all : End) → AreJudged e q.asked q.zone q.ds false before between
      → IsHeardThere e q.asked q.zone q.ds (TellsDown c below) first → StopsBelowIn e (delegated q c below) cuts between end → all.ending ≡ end.ending → all.counts ≡ end.counts
      → all.validity ≡ least_of first end.validity → StopsIn e q cuts before all
  stops_below cuts c below first before between end all counted way stops same counts lasts =
      let by_end : Stops e q.asked end.ending cuts q.zone q.ds before end.counts all.validity = one_below end.ending cuts c below first end.validity all.validity before between end.counts counted way stops lasts in
      let by_ending : Stops e q.asked all.ending cuts q.zone q.ds before end.counts all.validity =
      subst (λ (g : Ending). Stops e q.asked g cuts q.zone q.ds before end.counts all.validity) (sym same) by_end in
      subst (λ (n : Counts). Stops e q.asked all.ending cuts q.zone q.ds before n all.validity) (sym counts) by_ending

  pub none_left : (cuts : ℕ) (before : Counts) (l : Option Validity) → cuts ≡ 0 → StopsBelow e q.asked ends.TooManyCuts cuts q.zone q.ds before before l
  none_left cuts before l none = subst (λ (n : ℕ). StopsBelow e q.asked ends.TooManyCuts n q.zone q.ds before before l) (sym none) (NoneLeft refl refl)

  pub one_less_in : (cuts : ℕ) (before : Counts) (r : Result End AllocError) → 0 < cuts → IfOk r (StopsIn e q (cuts - 1) before) → IfOk r (StopsBelowIn e q cuts before)
  one_less_in cuts before (Ok end) some stops = subst (λ (n : ℕ). StopsBelow e q.asked end.ending n q.zone q.ds before end.counts end.validity) (suc_of cuts some) (OneLess stops)
  one_less_in cuts before (Err x) some stops = tt

-- ---- through aliases

-- the trust anchor's zone, asked a question
abbrev pub anchored : Given → Asked → Query
anchored e asked = record { zone = e.anchor; ds = e.ds; asked = asked }

-- what a name's way ends in, by evidence as it is kept
pub alias_led : (e kept : Given) (asked : Asked) (cuts : ℕ) (before : Counts) (end : End) (r : Result Target End) → kept ≡ e → is_asked_of e.anchor asked ≡ true → StopsIn e (anchored kept asked) cuts before end
    → MatchResult r (IsAliasOf end) (IsNoAlias end) → MatchResult r (IsLed e asked cuts before) (EndsHere e asked cuts before)
alias_led e kept asked cuts before end (Ok t) at w stops said =
    let here : StopsIn e (anchored e asked) cuts before end = subst (λ (g : Given). StopsIn e (anchored g asked) cuts before end) at stops in
    let by_counts : Stops e asked end.ending cuts e.anchor e.ds before t.counts end.validity =
    subst (λ (n : Counts). Stops e asked end.ending cuts e.anchor e.ds before n end.validity) (sym said.counts_are) here in
    record { asked_of_it = w; ending = end.ending; says = said.says; stops = subst (Stops e asked end.ending cuts e.anchor e.ds before t.counts) (sym said.lasts) by_counts }
alias_led e kept asked cuts before end (Err x) at w stops said = λ aliases.
    let here : StopsIn e (anchored e asked) cuts before end = subst (λ (g : Given). StopsIn e (anchored g asked) cuts before end) at stops in
    AtOnce w (subst (StopsIn e (anchored e asked) cuts before) (sym said.0) here) said.1

module _ (e : Given) (asked : Asked) (cuts aliases : ℕ) (names : List Name) (before : Counts) where
  as_kept : (more through : List Name) (ending kept : Ending) (after counts : Counts) (l last : Option Validity) → StopsBehind e cuts ending aliases asked more before after l → through ≡ names ++ more → kept ≡ ending
      → counts ≡ after → last ≡ l → IsStopped e asked cuts aliases names through before kept counts last
  as_kept more through ending kept after counts l last stops are same is lasts = record {
    more = more;
    through_are = are;
    stops =
        let by_ending : StopsBehind e cuts kept aliases asked more before after l = subst (λ (g : Ending). StopsBehind e cuts g aliases asked more before after l) (sym same) stops in
        let by_counts : StopsBehind e cuts kept aliases asked more before counts l = subst (λ (n : Counts). StopsBehind e cuts kept aliases asked more before n l) (sym is) by_ending in
        subst (StopsBehind e cuts kept aliases asked more before counts) (sym lasts) by_counts;
  }

  -- an end with no aliases, behind those so far
  pub walk_stops : (end : End) (w : Walk) → StopsBehind e cuts end.ending aliases asked [] before end.counts end.validity → w.ending ≡ end.ending → w.through.items ≡ names → w.counts ≡ end.counts → w.validity ≡ end.validity
      → IsStopped e asked cuts aliases names w.through.items before w.ending w.counts w.validity
  walk_stops end w stops same through counts lasts = as_kept [] w.through.items end.ending w.ending end.counts w.counts end.validity w.validity stops (through ∙ sym (append-nil names)) same counts lasts

  -- the limit allows no alias more
  pub walk_stops_many : (t : Target) (w : Walk) → aliases ≡ 0 → IsLed e asked cuts before t → w.ending ≡ ends.TooManyAliases → w.through.items ≡ names → w.counts ≡ t.counts
      → IsStopped e asked cuts aliases names w.through.items before w.ending w.counts w.validity
  walk_stops_many t w none k same through counts =
      let many : StopsBehind e cuts ends.TooManyAliases aliases asked [] before t.counts w.validity =
      subst (λ (n : ℕ). StopsBehind e cuts ends.TooManyAliases n asked [] before t.counts w.validity) (sym none) (TooMany t k refl refl) in
      as_kept [] w.through.items ends.TooManyAliases w.ending t.counts w.counts w.validity w.validity many (through ∙ sym (append-nil names)) same counts refl

  -- behind an alias
  pub walk_stops_led : (t : Target) (longer : List Name) (walk w : Walk) → 0 < aliases → IsLed e asked cuts before t → longer ≡ names ++ t.name ∷ []
      → IsStopped e (renamed asked t.name) cuts (aliases - 1) longer walk.through.items t.counts walk.ending walk.counts walk.validity → w.ending ≡ walk.ending → w.through.items ≡ walk.through.items → w.counts ≡ walk.counts
      → w.validity ≡ least_of t.validity walk.validity → IsStopped e asked cuts aliases names w.through.items before w.ending w.counts w.validity
  walk_stops_led t longer walk w some k are stops same through counts lasts =
      let through_are : w.through.items ≡ names ++ t.name ∷ stops.more = through ∙ stops.through_are ∙ ap (λ (ns : List Name). ns ++ stops.more) are ∙ append_assoc names (t.name ∷ []) stops.more in
      let led : StopsBehind e cuts walk.ending aliases asked (t.name ∷ stops.more) before walk.counts w.validity =
      subst (λ (n : ℕ). StopsBehind e cuts walk.ending n asked (t.name ∷ stops.more) before walk.counts w.validity) (suc_of aliases some) (Led t k stops.stops lasts) in
      as_kept (t.name ∷ stops.more) w.through.items walk.ending w.ending walk.counts w.counts w.validity w.validity led through_are same counts refl

-- within limits of a walk, as it is kept
pub stops_within : (e : Given) (asked : Asked) (limits : Limits) (walk w : Walk) → IsStopped e asked limits.cuts limits.aliases [] walk.through.items no_counts walk.ending walk.counts walk.validity
    → w.ending ≡ ending_within limits.messages e walk.ending → w.through.items ≡ walk.through.items → w.counts ≡ walk.counts → w.validity ≡ validity_said (said_of w.ending) walk.validity → StopsWithin e asked limits w
stops_within e asked limits walk w stops is through counts lasts = record {
  ending = walk.ending;
  validity = walk.validity;
  stops = as_kept e asked limits.cuts limits.aliases [] no_counts stops.more w.through.items walk.ending walk.ending walk.counts w.counts walk.validity walk.validity stops.stops (through ∙ stops.through_are) refl counts refl;
  is = is;
  lasts = lasts;
}

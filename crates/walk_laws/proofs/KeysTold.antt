-- Where a zone's keys are shown, no answer that tells nothing is refused for them.
use Rattle.std.proofs.Common.{◌≡◌, ℕ, Bool, true, false, List, [], ◌∷◌, Option, Some, None, Result, Err, refl, sym, ap, subst, ◌∙◌}
use Rattle.std.specs.Prelude.{◌&&◌, ◌==◌, if◌then◌else◌}
use Rattle.definitions.specs.Dnskey.{Ds}
use Rattle.definitions.specs.Limits.{pointer_limit}
use Rattle.definitions.specs.Name.{Name, low, same}
use Rattle.definitions.specs.Zone.{Verdict, Records, NoType, NoName, StarRecords, StarNoType, Delegated, Open, Unsigned}
use Rattle.answer_judge.specs.Judging.{Answer, JudgeInput, Refuses, Says, answer_of}
use Rattle.answer_judge.specs.declared.verdict.Judgement.{Judgement}
use Rattle.answer_judge_facts.specs.declared.validity.Validity.{Validity}
use Rattle.answer_judge.specs.declared.verdict.Refusal.{Refusal}
use Rattle.answer_judge.specs.declared.verdict.Refused.{Refused}
use Rattle.answer_judge_table.specs.Outcomes.{IsJudgedBy}
use Rattle.answer_findings.specs.Found.{IsFound, IsFoundBy}
use Rattle.answer_findings.specs.Judgements.{aside, asking, is_not_proven}
use Rattle.answer_findings.specs.Seen.{Seen, SeesVerdict, SeesDelegated, SeesNoDs, SeesAlias, SeesStarAlias, SeesOpen, SeesDname, SeesReferral, answer_found, first_found, found_or, lead_found, referral_found}
use Rattle.answer_findings.specs.Table.{AgreesWith, Checked, Tried, answers_with}
use Rattle.answer_findings.specs.declared.meaning.AnswerOutcome.{AnswerOutcome}
use Rattle.answer_findings.specs.declared.meaning.AnswerOutcome.TheVariants as f
use Rattle.resolution_step.specs.KnownDs.{known_ds}
use Rattle.resolution_step.specs.Told.{StepSeen, TellsVerdict, TellsLead, TellsDown, TellsUnsigned, TellsOpen, TellsNoCut, TellsNoneBelow, TellsNothing, AsksFor, Search, Sees, Refuses as Refused_so, Wants, IsCutTold, IsSearchTold, IsSeenTold, IsTold, at_cut, by_known, cut_searched, cut_told, search_of, verdict_told}
use Rattle.resolution_step.specs.declared.judged_step.Counts.{Counts}
use Rattle.resolution_walk.specs.Between.{IsNothing}
use Rattle.resolution_walk.specs.Judged.{are_keys_refused, is_of_keys}
use Rattle.message_laws.specs.Shown.{ShowsKeys}
use Rattle.walk_laws.specs.Keys.{is_refused_for_keys}
use Rattle.walk_laws.proofs.Keys.{keys_trusted}

-- what is told is no refusal for keys
abbrev IsTrusting : StepSeen → Type 0
IsTrusting (TellsNothing e) = are_keys_refused e ≡ false
IsTrusting _ = Unit {0}

pub nothing_trusting : (said : StepSeen) (refusal : Option Refusal) → IsTrusting said → IsNothing said refusal → are_keys_refused refusal ≡ false
nothing_trusting (TellsNothing e) refusal k is = ap are_keys_refused is ∙ k
nothing_trusting TellsNoCut refusal k is = ap are_keys_refused is
nothing_trusting TellsNoneBelow refusal k is = ap are_keys_refused is
nothing_trusting (TellsVerdict v) refusal k is = absurd is
nothing_trusting (TellsLead l) refusal k is = absurd is
nothing_trusting (TellsDown c ds) refusal k is = absurd is
nothing_trusting (TellsUnsigned c datas) refusal k is = absurd is
nothing_trusting TellsOpen refusal k is = absurd is
nothing_trusting (AsksFor asks) refusal k is = absurd is

at_cut_trusting : (said : StepSeen) → IsTrusting said → IsTrusting (at_cut said)
at_cut_trusting (TellsNothing e) k = k
at_cut_trusting TellsNoCut k = refl
at_cut_trusting TellsNoneBelow k = refl
at_cut_trusting (TellsVerdict v) k = refl
at_cut_trusting (TellsLead l) k = refl
at_cut_trusting (TellsDown c ds) k = tt
at_cut_trusting (TellsUnsigned c datas) k = tt
at_cut_trusting TellsOpen k = tt
at_cut_trusting (AsksFor asks) k = tt

-- ---- what is found tells no refusal

known_trusting : (c : Name) (datas : List (List ℕ)) (ds : List Ds) → IsTrusting (by_known c datas ds)
known_trusting c datas [] = tt
known_trusting c datas (d ∷ ds) = tt

cut_trusting : (algorithms : List ℕ) (n : Name) (x : Seen) → IsTrusting (cut_told algorithms n x)
cut_trusting algorithms n (SeesVerdict (Records datas)) = known_trusting (low n) datas (known_ds algorithms datas)
cut_trusting algorithms n (SeesVerdict NoType) = refl
cut_trusting algorithms n (SeesVerdict NoName) = tt
cut_trusting algorithms n (SeesVerdict (StarRecords datas)) = tt
cut_trusting algorithms n (SeesVerdict StarNoType) = tt
cut_trusting algorithms n (SeesVerdict Delegated) = refl
cut_trusting algorithms n (SeesVerdict Open) = tt
cut_trusting algorithms n (SeesVerdict Unsigned) = refl
cut_trusting algorithms n (SeesDelegated c) = refl
cut_trusting algorithms n (SeesNoDs true) = tt
cut_trusting algorithms n (SeesNoDs false) = tt
cut_trusting algorithms n (SeesAlias target) = tt
cut_trusting algorithms n (SeesStarAlias target) = tt
cut_trusting algorithms n SeesOpen = tt
cut_trusting algorithms n (SeesDname owner lead) = tt
cut_trusting algorithms n (SeesReferral c datas) = refl

verdict_trusting : (v : Verdict) → IsTrusting (verdict_told v)
verdict_trusting (Records datas) = tt
verdict_trusting NoType = tt
verdict_trusting NoName = tt
verdict_trusting (StarRecords datas) = tt
verdict_trusting StarNoType = tt
verdict_trusting Delegated = refl
verdict_trusting Open = tt
verdict_trusting Unsigned = refl

referral_trusting : (algorithms : List ℕ) (c : Name) (datas : List (List ℕ)) (b : Bool) → IsTrusting (if b then TellsNothing None else by_known (low c) datas (known_ds algorithms datas))
referral_trusting algorithms c datas true = refl
referral_trusting algorithms c datas false = known_trusting (low c) datas (known_ds algorithms datas)

-- ---- of a case whose keys are shown

module _ (passes : Tried → Bool) (table : List Checked) (agrees : AgreesWith table passes) (algorithms : List ℕ) where
  module _ (h : JudgeInput) (given : ShowsKeys (answers_with passes) pointer_limit h.apex h.ds h.dnskey_bytes h.now) where
    own_trusting : (js : Result Judgement Refused) → IsJudgedBy table h js → is_refused_for_keys (answer_of js) ≡ false
    own_trusting js is = keys_trusted (answers_with passes) pointer_limit h given (answer_of js) (is.by_table passes agrees).exact

    found_trusting : (refusal : Refusal) (l : Option Validity) (n m : ℕ) → IsFoundBy table h (Err refusal) l n m → is_of_keys refusal ≡ false
    found_trusting refusal l n m k = go (answer_of k.judgements.own) (own_trusting k.judgements.own k.are.own) k.says
      where
        go : (answer : Answer) → is_refused_for_keys answer ≡ false → Err refusal ≡ answer_found h k.judgements answer → is_of_keys refusal ≡ false
        go (Says v) kept is = absurd cc
        go (Refuses e) kept is = by_lead (is_not_proven e) (first_found (lead_found h k.judgements.alias) (referral_found k.judgements.ds)) is
          where
            same_refusal : (let said : Result Seen Refusal = Err refusal in said ≡ Err e) → is_of_keys refusal ≡ false
            same_refusal is = ap is_of_keys (let both : refusal ≡ e = cc in both) ∙ kept

            by_lead : (b : Bool) (o : Option Seen) → (let said : Result Seen Refusal = Err refusal in said ≡ (if b then found_or e o else Err e)) → is_of_keys refusal ≡ false
            by_lead true None is = same_refusal is
            by_lead true (Some x) is = absurd cc
            by_lead false o is = same_refusal is

    abbrev IsSearchTrusting : Search → Type 0
    IsSearchTrusting (Sees x) = Unit {0}
    IsSearchTrusting (Refused_so e) = is_of_keys e ≡ false
    IsSearchTrusting (Wants asks) = Unit {0}

    search_trusting : (came : Search) (found : AnswerOutcome) → IsFound table h found → came ≡ search_of found → IsSearchTrusting came
    search_trusting came (f.Means meaning l n m) is e = subst IsSearchTrusting (sym e) tt
    search_trusting came (f.Refused refusal n m) is e = subst IsSearchTrusting (sym e) (found_trusting refusal None n m is)
    search_trusting came (f.Asks asks n m) is e = subst IsSearchTrusting (sym e) tt

    pub cut_told_trusting : (said : StepSeen) (l : Option Validity) (n : Counts) → IsCutTold algorithms table h said l n → IsTrusting said
    cut_told_trusting said l n k = subst IsTrusting (sym k.is) (go k.came (search_trusting k.came k.searched.found k.searched.is_found k.searched.is))
      where
        go : (came : Search) → IsSearchTrusting came → IsTrusting (cut_searched algorithms h.asked.name came)
        go (Sees x) kept = cut_trusting algorithms h.asked.name x
        go (Refused_so e) kept = kept
        go (Wants asks) kept = tt

  module _ (h : JudgeInput) (given : ShowsKeys (answers_with passes) pointer_limit h.apex h.ds h.dnskey_bytes h.now) where
    seen_trusting : (x : Seen) (fl : Option Validity) (fn : Counts) (said : StepSeen) (l : Option Validity) (n : Counts) → IsSeenTold algorithms table h x fl fn said l n → IsTrusting said
    seen_trusting (SeesVerdict v) fl fn said l n k = subst IsTrusting (sym k.0) (verdict_trusting v)
    seen_trusting (SeesDelegated None) fl fn said l n k = subst IsTrusting (sym k.0) refl
    seen_trusting (SeesDelegated (Some c)) fl fn said l n k =
        subst IsTrusting (sym k.is) (at_cut_trusting k.below (cut_told_trusting (aside h (asking h c 43)) given k.below k.below_validity k.below_counts k.told_is))
    seen_trusting (SeesNoDs d) fl fn said l n k = subst IsTrusting (sym k.0) tt
    seen_trusting (SeesAlias target) fl fn said l n k = subst IsTrusting (sym k.0) tt
    seen_trusting (SeesStarAlias target) fl fn said l n k = subst IsTrusting (sym k.0) tt
    seen_trusting SeesOpen fl fn said l n k = subst IsTrusting (sym k.0) tt
    seen_trusting (SeesDname owner lead) fl fn said l n k = subst IsTrusting (sym k.0) tt
    seen_trusting (SeesReferral c datas) fl fn said l n k = subst IsTrusting (sym k.0) (referral_trusting algorithms c datas (same c h.asked.name && (h.asked.rtype == 43)))

    pub told_trusting : (said : StepSeen) (l : Option Validity) (n : Counts) → IsTold algorithms table h said l n → IsTrusting said
    told_trusting said l n k = go k.came (search_trusting h given k.came k.searched.found k.searched.is_found k.searched.is) k.is
      where
        go : (came : Search) → IsSearchTrusting h given came → IsSearchTold algorithms table h came k.found_validity k.found_counts said l n → IsTrusting said
        go (Sees x) kept is = seen_trusting x k.found_validity k.found_counts said l n is
        go (Refused_so e) kept is = subst IsTrusting (sym is.0) kept
        go (Wants asks) kept is = subst IsTrusting (sym is.0) tt

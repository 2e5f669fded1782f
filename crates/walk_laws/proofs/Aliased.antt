-- Where a walk over evidence of a tree ends whose zones, aliases among their records or not, answer as they are published.
use Rattle.std.proofs.Common.{◌≡◌, ℕ, Bool, List, Option, Some, None, Result, refl, sym, ap, subst, ◌∙◌, ◌⊎◌, inl, inr}
use Rattle.std.specs.Prelude.{IfSome}
use Rattle.std.proofs.lemmas.Bool.{false≢true}
use Rattle.definitions.specs.Limits.{pointer_limit}
use Rattle.definitions.specs.Name.{Name}
use Rattle.definitions.specs.Zone.{Open, Verdict}
use Rattle.messages.specs.Message.{Asked}
use Rattle.answer_judge.specs.Judged.{AnswersAs, judged}
use Rattle.answer_judge.specs.Judging.{Answer, JudgeInput, Refuses, Says, answer_of}
use Rattle.answer_judge.specs.declared.verdict.Judgement.{Judgement}
use Rattle.answer_judge_facts.specs.declared.validity.Validity.{Validity}
use Rattle.answer_judge.specs.declared.verdict.Refusal.{Refusal}
use Rattle.answer_judge.specs.declared.verdict.Refusal.TheVariants as r
use Rattle.answer_judge.specs.declared.verdict.Refused.{Refused}
use Rattle.answer_judge_table.specs.Decided.{is_out_of_memory}
use Rattle.answer_judge_table.specs.Outcomes.{IsJudgedBy}
use Rattle.answer_findings.specs.Found.{AreJudgements}
use Rattle.answer_findings.specs.Judgements.{IsMade, IsMadeInMemory, alias_question, aside, asked_in, question_of}
use Rattle.answer_findings.specs.Seen.{Seen, SeesVerdict, SeesDelegated, SeesNoDs, SeesAlias, SeesStarAlias, SeesOpen, SeesDname, SeesReferral, answer_found, first_found, found_by, found_or, lead_found, lead_said, referral_found}
use Rattle.answer_findings.specs.Table.{AgreesWith, Checked, Tried, answers_with}
use Rattle.resolution_step.specs.Told.{StepSeen, TellsNoCut, TellsNoneBelow, TellsNothing, Search, Sees, Refuses as Refused_so, Wants, IsCutTold, IsSearchTold, IsSeenTold, IsTold, at_cut, cut_said, cut_searched, cut_told, verdict_told}
use Rattle.resolution_step.specs.declared.judged_step.Counts.{Counts}
use Rattle.resolution_walk.specs.Between.{IsNothing}
use Rattle.message_laws.proofs.ShownLeads.{IsLead, IsLed}
use Rattle.walk_laws.proofs.Saying.{IsOfKind, IsSearchOfKind, search_so}

-- ---- what is found where an alias leads on

-- a lead; or that opt-out leaves the name open
abbrev IsLeadOrOpen : Seen → Type 0
IsLeadOrOpen (SeesVerdict v) = v ≡ Open
IsLeadOrOpen x = IsLead x

lead_is : (x : Seen) → IsLead x → IsLeadOrOpen x
lead_is (SeesVerdict v) is = absurd is
lead_is (SeesDelegated c) is = is
lead_is (SeesNoDs d) is = is
lead_is (SeesAlias target) is = is
lead_is (SeesStarAlias target) is = is
lead_is SeesOpen is = is
lead_is (SeesDname owner lead) is = is
lead_is (SeesReferral c datas) is = is

module _ (passes : Tried → Bool) (table : List Checked) (agrees : AgreesWith table passes) (h : JudgeInput) (led : IsLed (answers_with passes) pointer_limit h)
    (honest : (js : Result Judgement Refused) → IsJudgedBy table (aside h h.asked) js → (v : Verdict) → answer_of js ≡ Says v → v ≡ Open) where
  abbrev itself : JudgeInput
  itself = aside h h.asked

  made_leads : (made : _) → asked_in made ≡ Some led.question → IfSome made (IsMade table itself) → IfSome made IsMadeInMemory → lead_found itself made ≡ Some led.lead
  made_leads None wanted made in_memory = absurd (let both : None ≡ Some led.question = wanted in cc)
  made_leads (Some m) wanted made in_memory =
      let asked_is : question_of m ≡ led.question = (let both : Some (question_of m) ≡ Some led.question = wanted in cc) in
      let is : IsJudgedBy table (aside h led.question) m.said = subst (λ (q : Asked). IsJudgedBy table (aside h q) m.said) asked_is made in
      go asked_is (is.by_table passes agrees).exact
    where
      go : question_of m ≡ led.question → AnswersAs (answer_of m.said) (judged (answers_with passes) pointer_limit (aside h led.question)) → lead_said itself (question_of m) (answer_of m.said) ≡ Some led.lead
      go asked_is (inl ran_out) = absurd (false≢true (sym in_memory ∙ ap is_out_of_memory ran_out))
      go asked_is (inr said) = (λ i. lead_said itself (asked_is i) ((said ∙ led.judged_is) i)) ∙ led.leads

  finds_lead : (js : _) → AreJudgements table itself js → IsOfKind IsLeadOrOpen (found_by itself js)
  finds_lead js are = go (are.own.by_table passes agrees).exact
    where
      by_own : (answer : Answer) → answer_of js.own ≡ answer → IsOfKind IsLeadOrOpen (answer_found itself js answer) → IsOfKind IsLeadOrOpen (found_by itself js)
      by_own answer is found = subst (IsOfKind IsLeadOrOpen) (sym (ap (answer_found itself js) is)) found

      unproven : answer_of js.own ≡ Refuses r.NotProven → IsOfKind IsLeadOrOpen (found_by itself js)
      unproven is =
          let wanted : alias_question pointer_limit itself (answer_of js.own) ≡ Some led.question = ap (alias_question pointer_limit itself) is ∙ led.hinted in
          let lead : lead_found itself js.alias ≡ Some led.lead = made_leads js.alias (are.alias.asked ∙ wanted) are.alias.judged are.alias.in_memory in
          by_own (Refuses r.NotProven) is (subst (λ (o : Option Seen). IsOfKind IsLeadOrOpen (found_or r.NotProven (first_found o (referral_found js.ds)))) (sym lead) (lead_is led.lead led.is_lead))

      says : (v : Verdict) → answer_of js.own ≡ Says v → IsOfKind IsLeadOrOpen (found_by itself js)
      says v is =
          let open_there : v ≡ Open = honest js.own are.own v is in
          by_own (Says Open) (is ∙ ap (λ (x : Verdict). Says x) open_there) refl

      by_judged : ((v : Verdict) × (judged (answers_with passes) pointer_limit itself ≡ Says v)) ⊎ (judged (answers_with passes) pointer_limit itself ≡ Refuses r.NotProven) → answer_of js.own ≡ judged (answers_with passes) pointer_limit itself
          → IsOfKind IsLeadOrOpen (found_by itself js)
      by_judged (inl (v, is)) same = says v (same ∙ is)
      by_judged (inr is) same = unproven (same ∙ is)

      go : AnswersAs (answer_of js.own) (judged (answers_with passes) pointer_limit itself) → IsOfKind IsLeadOrOpen (found_by itself js)
      go (inl ran_out) = by_own (Refuses r.Memory) ran_out refl
      go (inr same) = by_judged led.unproven same

  -- ---- so it tells something

  module _ (algorithms : List ℕ) where
    lead_told : (x : Seen) (fl l : Option Validity) (fn n : Counts) (said : StepSeen) (refusal : Option Refusal) → IsLeadOrOpen x → IsSeenTold algorithms table itself x fl fn said l n → IsNothing said refusal → ⊥
    lead_told (SeesVerdict v) fl l fn n said refusal is told nothing =
        subst (λ (y : StepSeen). IsNothing y refusal) (told.0 ∙ ap (λ (x : Verdict). verdict_told x) is) nothing
    lead_told (SeesDelegated c) fl l fn n said refusal is told nothing = is
    lead_told (SeesNoDs d) fl l fn n said refusal is told nothing = is
    lead_told (SeesAlias target) fl l fn n said refusal is told nothing = subst (λ (y : StepSeen). IsNothing y refusal) told.0 nothing
    lead_told (SeesStarAlias target) fl l fn n said refusal is told nothing = subst (λ (y : StepSeen). IsNothing y refusal) told.0 nothing
    lead_told SeesOpen fl l fn n said refusal is told nothing = subst (λ (y : StepSeen). IsNothing y refusal) told.0 nothing
    lead_told (SeesDname owner lead) fl l fn n said refusal is told nothing = subst (λ (y : StepSeen). IsNothing y refusal) told.0 nothing
    lead_told (SeesReferral c datas) fl l fn n said refusal is told nothing = is

    pub alias_told : (said : StepSeen) (l : Option Validity) (n : Counts) (refusal : Option Refusal) → IsTold algorithms table itself said l n → IsNothing said refusal → refusal ≡ Some r.Memory
    alias_told said l n refusal k nothing = go k.came (search_so table itself IsLeadOrOpen finds_lead k.came k.found_validity k.found_counts k.searched) k.is
      where
        go : (came : Search) → IsSearchOfKind IsLeadOrOpen came → IsSearchTold algorithms table itself came k.found_validity k.found_counts said l n → refusal ≡ Some r.Memory
        go (Sees x) so is = absurd (lead_told x k.found_validity l k.found_counts n said refusal so is nothing)
        go (Refused_so e) so is = subst (λ (s : StepSeen). IsNothing s refusal) is.0 nothing ∙ ap (λ (x : Refusal). Some x) so
        go (Wants asks) so is = absurd (subst (λ (s : StepSeen). IsNothing s refusal) is.0 nothing)

    lead_cut : (n : Name) (x : Seen) (refusal : Option Refusal) → IsLeadOrOpen x → cut_told algorithms n x ≡ at_cut (cut_told algorithms n x) → IsNothing (cut_told algorithms n x) refusal → ⊥
    lead_cut n (SeesVerdict v) refusal is cut nothing = subst (λ (y : Verdict). IsNothing (cut_said algorithms n y) refusal) is nothing
    lead_cut n (SeesDelegated c) refusal is cut nothing = is
    lead_cut n (SeesNoDs d) refusal is cut nothing = is
    lead_cut n (SeesAlias target) refusal is cut nothing = absurd (let both : TellsNoCut ≡ TellsNothing None = cut in cc)
    lead_cut n (SeesStarAlias target) refusal is cut nothing = absurd (let both : TellsNoneBelow ≡ TellsNothing None = cut in cc)
    lead_cut n SeesOpen refusal is cut nothing = nothing
    lead_cut n (SeesDname owner lead) refusal is cut nothing = absurd (let both : TellsNoneBelow ≡ TellsNothing None = cut in cc)
    lead_cut n (SeesReferral c datas) refusal is cut nothing = is

    pub alias_cut : (said : StepSeen) (l : Option Validity) (n : Counts) (refusal : Option Refusal) → IsCutTold algorithms table itself said l n → said ≡ at_cut said → IsNothing said refusal → refusal ≡ Some r.Memory
    alias_cut said l n refusal k cut nothing = go k.came (search_so table itself IsLeadOrOpen finds_lead k.came l n k.searched) k.is
      where
        go : (came : Search) → IsSearchOfKind IsLeadOrOpen came → said ≡ cut_searched algorithms h.asked.name came → refusal ≡ Some r.Memory
        go (Sees x) so is = absurd (lead_cut h.asked.name x refusal so (subst (λ (s : StepSeen). s ≡ at_cut s) is cut) (subst (λ (s : StepSeen). IsNothing s refusal) is nothing))
        go (Refused_so e) so is = subst (λ (s : StepSeen). IsNothing s refusal) is nothing ∙ ap (λ (x : Refusal). Some x) so
        go (Wants asks) so is = absurd (subst (λ (s : StepSeen). IsNothing s refusal) is nothing)

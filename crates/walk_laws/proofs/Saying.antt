-- What is told of messages of which a judge says a verdict.
use Rattle.std.proofs.Common.{◌≡◌, ℕ, Bool, true, false, List, [], ◌∷◌, Option, Some, None, Result, Ok, Err, refl, sym, ap, subst, ◌∙◌, inl, inr}
use Rattle.std.specs.Prelude.{◌==◌, if◌then◌else◌}
use Rattle.std.proofs.lemmas.Bool.{eq-eqb, false≢true}
use Rattle.definitions.specs.Dnskey.{Ds}
use Rattle.definitions.specs.Name.{Name, low}
use Rattle.definitions.specs.Zone.{Zone, Verdict, Records, NoType, NoName, StarRecords, StarNoType, Delegated, Open, Unsigned, verdict}
use Rattle.denial_laws.specs.Saying.{IsDelegated}
use Rattle.answer_judge.specs.Judged.{AnswersAs}
use Rattle.answer_judge.specs.Judging.{Says, JudgeInput, answer_of}
use Rattle.answer_judge_facts.specs.declared.validity.Validity.{Validity}
use Rattle.answer_judge.specs.declared.verdict.Judgement.{Judgement}
use Rattle.answer_judge.specs.declared.verdict.Refusal.{Refusal}
use Rattle.answer_judge.specs.declared.verdict.Refusal.TheVariants as r
use Rattle.answer_judge.specs.declared.verdict.Refused.{Refused}
use Rattle.answer_judge_table.specs.Outcomes.{IsJudgedBy}
use Rattle.answer_findings.specs.Table.{Checked}
use Rattle.answer_findings.specs.Found.{AreJudgements, IsFound, IsFoundBy}
use Rattle.answer_findings.specs.Judgements.{is_delegated, is_no_type}
use Rattle.answer_findings.specs.Seen.{Seen, SeesVerdict, SeesNoDs, answer_found, delegates_found, found_by, no_ds_found, seen, verdict_found}
use Rattle.answer_findings.specs.declared.meaning.AnswerOutcome.{AnswerOutcome}
use Rattle.answer_findings.specs.declared.meaning.AnswerOutcome.TheVariants as f
use Rattle.tree_laws.specs.Tree.{refers_to}
use Rattle.tree_laws.proofs.Verdicts.{delegated_refers, verdict_told as told_verdict}
use Rattle.resolution_step.specs.KnownDs.{known_ds}
use Rattle.resolution_step.specs.Told.{StepSeen, TellsNoCut, TellsNoneBelow, TellsNothing, Search, Sees, Refuses as Refused_so, Wants, IsCutTold, IsSearchTold, IsSearched, IsSeenTold, IsTold, at_cut, by_known, cut_searched, cut_told, search_of, verdict_told}
use Rattle.resolution_step.specs.declared.judged_step.Counts.{Counts}
use Rattle.resolution_walk.specs.Between.{IsNothing}
use Rattle.walk_laws.proofs.WhetherFound.{IsWhetherFound}

-- ---- what a verdict tells

-- a verdict of a zone that refers the question nowhere is told
pub proper : (z : Zone) (optout : Bool) (q : Name) (t : ℕ) → refers_to z q t ≡ None → (v : Verdict) → verdict z optout q t ≡ v → (is_delegated v ≡ false) × ((refusal : Option Refusal) → IsNothing (verdict_told v) refusal → ⊥)
proper z optout q t none (Records datas) is = (refl, λ refusal k. k)
proper z optout q t none NoType is = (refl, λ refusal k. k)
proper z optout q t none NoName is = (refl, λ refusal k. k)
proper z optout q t none (StarRecords datas) is = (refl, λ refusal k. k)
proper z optout q t none StarNoType is = (refl, λ refusal k. k)
proper z optout q t none Open is = (refl, λ refusal k. k)
proper z optout q t none Delegated is =
    let d : IsDelegated z (low q) t = (told_verdict z optout q t Delegated is).1 in
    absurd (let both : None ≡ Some d.delegation = sym none ∙ delegated_refers z optout q t d.delegation is d.cut in cc)
proper z optout q t none Unsigned is = absurd (told_verdict z optout q t Unsigned is).1

-- what is found of a question with this verdict
data IsPlain : Verdict → Seen → Type 0 where
  Plain : {v : Verdict} → IsPlain v (SeesVerdict v)
  NoDs : {d : Bool} → IsPlain NoType (SeesNoDs d)

plain_none : (o : Option Bool) → IsPlain NoType (no_ds_found o)
plain_none None = Plain
plain_none (Some d) = NoDs

plain : (h : JudgeInput) (ns ds : _) (v : Verdict) → is_delegated v ≡ false → IsPlain v (verdict_found h ns ds v)
plain h ns ds (Records datas) own = Plain
plain h ns ds NoName own = Plain
plain h ns ds (StarRecords datas) own = Plain
plain h ns ds StarNoType own = Plain
plain h ns ds Open own = Plain
plain h ns ds Unsigned own = Plain
plain h ns ds Delegated own = absurd (false≢true (sym own))
plain h ns ds NoType own = go (h.asked.rtype == 43)
  where
    go : (b : Bool) → IsPlain NoType (if b then no_ds_found (delegates_found h ns) else SeesVerdict NoType)
    go true = plain_none (delegates_found h ns)
    go false = Plain

-- and where that is told, it is something
plain_told : (algorithms : List ℕ) (table : List Checked) (h : JudgeInput) (v : Verdict) (x : Seen) (fl l : Option Validity) (fn n : Counts) (said : StepSeen) (refusal : Option Refusal)
    → ((other : Option Refusal) → IsNothing (verdict_told v) other → ⊥) → IsPlain v x → IsSeenTold algorithms table h x fl fn said l n → IsNothing said refusal → ⊥
plain_told algorithms table h v x fl l fn n said refusal says Plain is nothing = says refusal (subst (λ (s : StepSeen). IsNothing s refusal) is.0 nothing)
plain_told algorithms table h v x fl l fn n said refusal says NoDs is nothing = subst (λ (s : StepSeen). IsNothing s refusal) is.0 nothing

-- ---- a search

-- what judgements come to is of a kind, or memory ran out
abbrev pub IsOfKind : (Seen → Type 0) → Result Seen Refusal → Type 0
IsOfKind IsKind (Ok x) = IsKind x
IsOfKind IsKind (Err refusal) = refusal ≡ r.Memory

-- a search that comes to nothing of the way came to that
abbrev pub IsSearchOfKind : (Seen → Type 0) → Search → Type 0
IsSearchOfKind IsKind (Sees x) = IsKind x
IsSearchOfKind IsKind (Refused_so refusal) = refusal ≡ r.Memory
IsSearchOfKind IsKind (Wants asks) = Unit {0}

module _ (table : List Checked) (h : JudgeInput) (IsKind : Seen → Type 0) (finds : (js : _) → AreJudgements table h js → IsOfKind IsKind (found_by h js)) where
  found_so : (said : Result Seen Refusal) (l : Option Validity) (n m : ℕ) → IsFoundBy table h said l n m → IsOfKind IsKind said
  found_so said l n m k = subst (IsOfKind IsKind) (sym k.says) (finds k.judgements k.are)

  pub search_so : (came : Search) (l : Option Validity) (n : Counts) → IsSearched table h came l n → IsSearchOfKind IsKind came
  search_so came l n k = subst (IsSearchOfKind IsKind) (sym k.is) (go k.found k.is_found)
    where
      go : (found : AnswerOutcome) → IsFound table h found → IsSearchOfKind IsKind (search_of found)
      go (f.Means meaning l n m) is = found_so (Ok (seen meaning)) l n m is
      go (f.Refused refusal n m) is = found_so (Err refusal) None n m is
      go (f.Asks asks n m) is = tt

-- of messages of which the judge says this verdict, if memory suffices
module _ (table : List Checked) (h : JudgeInput) (v : Verdict) (judges : (js : Result Judgement Refused) → IsJudgedBy table h js → AnswersAs (answer_of js) (Says v)) (IsKind : Seen → Type 0)
    (finds : (js : _) → AreJudgements table h js → answer_of js.own ≡ Says v → IsKind (verdict_found h js.ns js.ds v)) where
  finds_said : (js : _) → AreJudgements table h js → IsOfKind IsKind (found_by h js)
  finds_said js are = go (judges js.own are.own)
    where
      go : AnswersAs (answer_of js.own) (Says v) → IsOfKind IsKind (found_by h js)
      go (inl ran_out) = subst (IsOfKind IsKind) (sym (ap (answer_found h js) ran_out)) refl
      go (inr is) = subst (IsOfKind IsKind) (sym (ap (answer_found h js) is)) (finds js are is)

module _ (algorithms : List ℕ) (table : List Checked) (h : JudgeInput) (v : Verdict) (own : is_delegated v ≡ false) (says : (refusal : Option Refusal) → IsNothing (verdict_told v) refusal → ⊥)
    (judges : (js : Result Judgement Refused) → IsJudgedBy table h js → AnswersAs (answer_of js) (Says v)) where
  finds_plain : (js : _) → AreJudgements table h js → answer_of js.own ≡ Says v → IsPlain v (verdict_found h js.ns js.ds v)
  finds_plain js are is = plain h js.ns js.ds v own

  pub told_nothing : (said : StepSeen) (l : Option Validity) (n : Counts) (refusal : Option Refusal) → IsTold algorithms table h said l n → IsNothing said refusal → refusal ≡ Some r.Memory
  told_nothing said l n refusal k nothing = go k.came (search_so table h (IsPlain v) (finds_said table h v judges (IsPlain v) finds_plain) k.came k.found_validity k.found_counts k.searched) k.is
    where
      go : (came : Search) → IsSearchOfKind (IsPlain v) came → IsSearchTold algorithms table h came k.found_validity k.found_counts said l n → refusal ≡ Some r.Memory
      go (Sees x) so is = absurd (plain_told algorithms table h v x k.found_validity l k.found_counts n said refusal says so is nothing)
      go (Refused_so e) so is = subst (λ (s : StepSeen). IsNothing s refusal) is.0 nothing ∙ ap (λ (x : Refusal). Some x) so
      go (Wants asks) so is = absurd (subst (λ (s : StepSeen). IsNothing s refusal) is.0 nothing)

-- ---- of DS at a name between

-- what is found of DS there with this verdict
data IsPlainOfDs : Verdict → Seen → Type 0 where
  PlainOfDs : {v : Verdict} → is_no_type v ≡ false → IsPlainOfDs v (SeesVerdict v)
  NoDsThere : {d : Bool} → IsPlainOfDs NoType (SeesNoDs d)

plain_of_ds : (h : JudgeInput) (ns ds : _) (v : Verdict) → h.asked.rtype ≡ 43 → is_delegated v ≡ false → (v ≡ NoType → IsWhetherFound (delegates_found h ns)) → IsPlainOfDs v (verdict_found h ns ds v)
plain_of_ds h ns ds (Records datas) for_ds own whether = PlainOfDs refl
plain_of_ds h ns ds NoName for_ds own whether = PlainOfDs refl
plain_of_ds h ns ds (StarRecords datas) for_ds own whether = PlainOfDs refl
plain_of_ds h ns ds StarNoType for_ds own whether = PlainOfDs refl
plain_of_ds h ns ds Open for_ds own whether = PlainOfDs refl
plain_of_ds h ns ds Unsigned for_ds own whether = PlainOfDs refl
plain_of_ds h ns ds Delegated for_ds own whether = absurd (false≢true (sym own))
plain_of_ds h ns ds NoType for_ds own whether =
    let found : IsWhetherFound (delegates_found h ns) = whether refl in
    let is : verdict_found h ns ds NoType ≡ SeesNoDs found.0 = λ i. if eq-eqb h.asked.rtype 43 for_ds i then no_ds_found (found.1 i) else SeesVerdict NoType in
    subst (λ (x : Seen). IsPlainOfDs NoType x) (sym is) NoDsThere

-- what a verdict on DS tells of a delegation is something
nothing_of_cut : (algorithms : List ℕ) (n : Name) (v : Verdict) (x : Seen) (refusal : Option Refusal) → is_delegated v ≡ false → ((other : Option Refusal) → IsNothing (verdict_told v) other → ⊥) → IsPlainOfDs v x
    → cut_told algorithms n x ≡ at_cut (cut_told algorithms n x) → IsNothing (cut_told algorithms n x) refusal → ⊥
nothing_of_cut algorithms n (Records datas) x refusal own says (PlainOfDs other) cut nothing = go (known_ds algorithms datas) nothing
  where
    go : (ds : List Ds) → IsNothing (by_known (low n) datas ds) refusal → ⊥
    go [] k = k
    go (d ∷ ds) k = k
nothing_of_cut algorithms n NoType x refusal own says (PlainOfDs other) cut nothing = false≢true (sym other)
nothing_of_cut algorithms n NoName x refusal own says (PlainOfDs other) cut nothing = absurd (let both : TellsNoneBelow ≡ TellsNothing None = cut in cc)
nothing_of_cut algorithms n (StarRecords datas) x refusal own says (PlainOfDs other) cut nothing = absurd (let both : TellsNoneBelow ≡ TellsNothing None = cut in cc)
nothing_of_cut algorithms n StarNoType x refusal own says (PlainOfDs other) cut nothing = absurd (let both : TellsNoneBelow ≡ TellsNothing None = cut in cc)
nothing_of_cut algorithms n Open x refusal own says (PlainOfDs other) cut nothing = nothing
nothing_of_cut algorithms n Delegated x refusal own says (PlainOfDs other) cut nothing = false≢true (sym own)
nothing_of_cut algorithms n Unsigned x refusal own says (PlainOfDs other) cut nothing = says None refl
nothing_of_cut algorithms n NoType x refusal own says (NoDsThere {d = true}) cut nothing = nothing
nothing_of_cut algorithms n NoType x refusal own says (NoDsThere {d = false}) cut nothing = absurd (let both : TellsNoCut ≡ TellsNothing None = cut in cc)

module _ (algorithms : List ℕ) (table : List Checked) (h : JudgeInput) (v : Verdict) (for_ds : h.asked.rtype ≡ 43) (own : is_delegated v ≡ false) (says : (refusal : Option Refusal) → IsNothing (verdict_told v) refusal → ⊥)
    (judges : (js : Result Judgement Refused) → IsJudgedBy table h js → AnswersAs (answer_of js) (Says v))
    (whether : (js : _) → AreJudgements table h js → answer_of js.own ≡ Says NoType → IsWhetherFound (delegates_found h js.ns)) where
  finds_of_ds : (js : _) → AreJudgements table h js → answer_of js.own ≡ Says v → IsPlainOfDs v (verdict_found h js.ns js.ds v)
  finds_of_ds js are is = plain_of_ds h js.ns js.ds v for_ds own (λ none_there. whether js are (is ∙ ap (λ (x : Verdict). Says x) none_there))

  pub cut_nothing : (said : StepSeen) (l : Option Validity) (n : Counts) (refusal : Option Refusal) → IsCutTold algorithms table h said l n → said ≡ at_cut said → IsNothing said refusal → refusal ≡ Some r.Memory
  cut_nothing said l n refusal k cut nothing = go k.came (search_so table h (IsPlainOfDs v) (finds_said table h v judges (IsPlainOfDs v) finds_of_ds) k.came l n k.searched) k.is
    where
      go : (came : Search) → IsSearchOfKind (IsPlainOfDs v) came → said ≡ cut_searched algorithms h.asked.name came → refusal ≡ Some r.Memory
      go (Sees x) so is =
          absurd (nothing_of_cut algorithms h.asked.name v x refusal own says so (subst (λ (s : StepSeen). s ≡ at_cut s) is cut) (subst (λ (s : StepSeen). IsNothing s refusal) is nothing))
      go (Refused_so e) so is = subst (λ (s : StepSeen). IsNothing s refusal) is nothing ∙ ap (λ (x : Refusal). Some x) so
      go (Wants asks) so is = absurd (subst (λ (s : StepSeen). IsNothing s refusal) is nothing)

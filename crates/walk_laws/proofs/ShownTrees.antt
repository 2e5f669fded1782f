-- Where a walk over evidence of a tree ends whose messages show what its zones answer.
use Rattle.std.proofs.Common.{◌≡◌, ℕ, Bool, true, false, not, ◌&&◌, ◌||◌, List, [], ◌∷◌, Option, Some, Result, refl, sym, ap, subst, ◌∙◌, ◌⊎◌, inl, inr}
use Rattle.std.proofs.lemmas.Bool.{false≢true}
use Rattle.definitions.specs.Dnskey.{Ds}
use Rattle.definitions.specs.Limits.{pointer_limit}
use Rattle.definitions.specs.Name.{Name, low, strictly_above}
use Rattle.definitions.specs.Zone.{Open, Verdict, Zone, is_open, verdict}
use Rattle.definitions.proofs.VerdictCases.{verdict-open}
use Rattle.denial_laws.specs.Aliases.{has_own_alias, is_aliased, is_redirected}
use Rattle.messages.specs.Message.{Asked}
use Rattle.alias_laws.specs.Leading.{leads_elsewhere}
use Rattle.alias_laws.proofs.Leading.{aliased_is_led}
use Rattle.answer_judge.specs.Honest.{IsHonestInput, SaysOneOf}
use Rattle.answer_judge.specs.Judged.{AnswersAs, judged}
use Rattle.answer_judge.specs.Judging.{JudgeInput, Says, answer_of}
use Rattle.answer_judge.specs.declared.verdict.Judgement.{Judgement}
use Rattle.answer_judge_facts.specs.declared.validity.Validity.{Validity}
use Rattle.answer_judge.specs.declared.verdict.Refusal.{Refusal}
use Rattle.answer_judge.specs.declared.verdict.Refusal.TheVariants as r
use Rattle.answer_judge.specs.declared.verdict.Refused.{Refused}
use Rattle.answer_judge_table.specs.Outcomes.{IsJudgedBy}
use Rattle.answer_findings.specs.Judgements.{is_delegated}
use Rattle.answer_findings.specs.Table.{Tried, answers_with}
use Rattle.answer_findings.specs.Versions.{Version}
use Rattle.message_laws.specs.Shown.{IsShown, ShowsAlias, ShowsItself, usable_of}
use Rattle.message_laws.proofs.Shown.{zone_servable}
use Rattle.message_laws.proofs.ShownDs.{ns_says, own_says}
use Rattle.message_laws.proofs.ShownLeads.{IsLed, shown_led}
use Rattle.tree_laws.specs.Laws.{TreesResolveToOne, TreesSayOne}
use Rattle.resolution_step.specs.Told.{StepSeen, IsCutTold, IsTold, at_cut, verdict_told}
use Rattle.resolution_step.specs.Truth.{zone_of_version}
use Rattle.resolution_step.specs.declared.judged_step.Counts.{Counts}
use Rattle.evidence_laws.specs.Given.{Given, IsOf, judge_input}
use Rattle.evidence_laws.specs.Truth.{IsAnchored, IsOfTree, SignedZone, zone_of}
use Rattle.evidence_laws.specs.Walking.{IsNameStep, IsOwnStep}
use Rattle.resolution_walk.specs.Between.{IsNothing}
use Rattle.walk_laws.specs.Served.{AnswersItself, asking}
use Rattle.walk_laws.specs.Shown.{AreShown, ShownTreesAreWalked, ShownTreesComeToVerdicts}
use Rattle.walk_laws.proofs.Aliased.{alias_cut, alias_told}
use Rattle.walk_laws.proofs.Ending.{trees_are_walked}
use Rattle.walk_laws.proofs.Saying.{cut_nothing, proper, told_nothing}
use Rattle.walk_laws.proofs.Served.{never_refused}
use Rattle.walk_laws.proofs.Stuck.{OnlyForMemory, keys_refused, only_one, stuck_for}
use Rattle.walk_laws.specs.Ending.{Never}
use Rattle.walk_laws.proofs.Verdict.{comes}
use Rattle.walk_laws.proofs.WhetherFound.{whether_found}

-- what is an alias but for opt-out opt-out leaves open
left_open : (z : Zone) (optout : Bool) (n : Name) (t : ℕ) → is_aliased z false n t ≡ true → is_aliased z optout n t ≡ false → is_open z optout (low n) ≡ true
left_open z optout n t led none = go (is_open z optout (low n)) refl
  where
    go : (b : Bool) → is_open z optout (low n) ≡ b → b ≡ true
    go true is = refl
    go false is = absurd (false≢true (sym none ∙ (λ i. is_redirected z (low n) || (not (is i) && has_own_alias z (low n) t)) ∙ led))

module _ (passes : Tried → Bool) (e : Given) (asked : Asked) (zones : List SignedZone) (anchor : SignedZone) (of : IsOfTree e asked.class zones anchor) (shown : AreShown passes e asked zones anchor) where
  -- an answer that is shown
  module _ (s : SignedZone) (ds : List Ds) (n : Name) (t : ℕ) (h : JudgeInput) (kind : (t ≡ asked.rtype) ⊎ (t ≡ 43)) (anchored : IsAnchored e zones anchor s ds) (none : AnswersItself s n t) (is : IsOf e s.apex ds (asking asked n t) h) where
    abbrev input : JudgeInput
    input = judge_input e s.apex ds (asking asked n t) is.keys is.answer

    abbrev z : Zone
    z = (zone_of s).zone

    abbrev verdict_is : Verdict
    verdict_is = verdict z (zone_of s).optout n t

    given : IsShown (answers_with passes) pointer_limit input s.version.mode s.version.records
    given = subst (λ (x : JudgeInput). IsShown (answers_with passes) pointer_limit x s.version.mode s.version.records) is.is (shown.answers s ds n t h kind anchored none is)

    abbrev Itself : Type 0
    Itself = ShowsItself (answers_with passes) pointer_limit input (usable_of given.keys) given.read s.version.mode s.version.records

    honest_itself : IsHonestInput (answers_with of.passes) pointer_limit input (s.version ∷ [])
    honest_itself = subst (λ (x : JudgeInput). IsHonestInput (answers_with of.passes) pointer_limit x (s.version ∷ [])) is.is (of.honest s ds (asking asked n t) h refl anchored is).itself

    -- of a name that leads elsewhere no verdict is said, but that opt-out leaves it open
    honestly : leads_elsewhere z n t ≡ true → (js : Result Judgement Refused) → IsJudgedBy e.table input js → (v : Verdict) → answer_of js ≡ Says v → v ≡ Open
    honestly led js judged v says =
        let said : SaysOneOf input (s.version ∷ []) (Says v) = subst (SaysOneOf input (s.version ∷ [])) says (judged.honest of.passes of.true_are (s.version ∷ []) honest_itself) in
        let same : said.version ≡ s.version = only_one s.version said.version said.there in
        let unaliased : is_aliased z (zone_of s).optout n t ≡ false = subst (λ (x : Version). is_aliased (zone_of_version s.apex x).zone (zone_of_version s.apex x).optout n t ≡ false) same said.no_alias in
        let servable_zone = zone_servable (answers_with passes) pointer_limit input s.version.mode s.version.records given.keys given.read given.reads given.accepted in
        let open_there : is_open z (zone_of s).optout (low n) ≡ true = left_open z (zone_of s).optout n t (aliased_is_led z servable_zone n t ∙ led) unaliased in
        sym said.verdict_is ∙ ap (λ (x : Version). verdict (zone_of_version s.apex x).zone (zone_of_version s.apex x).optout n t) same ∙ verdict-open z (zone_of s).optout n (low n) t refl open_there

    judged_own : Itself → (js : Result Judgement Refused) → IsJudgedBy e.table input js → AnswersAs (answer_of js) (Says verdict_is)
    judged_own itself js is_judged = go (is_judged.by_table passes shown.checked).exact
      where
        go : AnswersAs (answer_of js) (judged (answers_with passes) pointer_limit input) → AnswersAs (answer_of js) (Says verdict_is)
        go (inl ran_out) = inl ran_out
        go (inr exact) = inr (exact ∙ own_says (answers_with passes) pointer_limit input s.version.mode s.version.records given.keys given.read given.reads given.accepted given.asked_is given.allowed given.hashes itself)

    properly : (is_delegated verdict_is ≡ false) × ((refusal : Option Refusal) → IsNothing (verdict_told verdict_is) refusal → ⊥)
    properly = proper z (zone_of s).optout n t none.1 verdict_is refl

    led_there : ShowsAlias (answers_with passes) pointer_limit input (usable_of given.keys) given.read s.version.mode s.version.records → IsLed (answers_with passes) pointer_limit input × (leads_elsewhere z n t ≡ true)
    led_there alias = shown_led (answers_with passes) pointer_limit input s.version.mode s.version.records given.keys given.read given.reads given.accepted given.allowed given.hashes alias

  module _ (s : SignedZone) (ds : List Ds) (n : Name) (anchored : IsAnchored e zones anchor s ds) (said : StepSeen) (l : Option Validity) (counts : Counts) (refusal : Option Refusal) where
    own_nothing : AnswersItself s n asked.rtype → IsOwnStep e s.apex ds (asking asked n asked.rtype) said l counts → IsNothing said refusal → refusal ≡ Some r.Memory
    own_nothing none step nothing = go (given s ds n asked.rtype step.judged (inl refl) anchored none step.of).shown
      where
        told : IsTold e.algorithms e.table (input s ds n asked.rtype step.judged (inl refl) anchored none step.of) said l counts
        told = subst (λ (x : JudgeInput). IsTold e.algorithms e.table x said l counts) step.of.is step.told_is

        go : Itself s ds n asked.rtype step.judged (inl refl) anchored none step.of
            ⊎ ShowsAlias (answers_with passes) pointer_limit (input s ds n asked.rtype step.judged (inl refl) anchored none step.of) (usable_of (given s ds n asked.rtype step.judged (inl refl) anchored none step.of).keys)
            (given s ds n asked.rtype step.judged (inl refl) anchored none step.of).read s.version.mode s.version.records → refusal ≡ Some r.Memory
        go (inl itself) =
            let proper_one = properly s ds n asked.rtype step.judged (inl refl) anchored none step.of in
            told_nothing e.algorithms e.table (input s ds n asked.rtype step.judged (inl refl) anchored none step.of) (verdict_is s ds n asked.rtype step.judged (inl refl) anchored none step.of) proper_one.0 proper_one.1
            (judged_own s ds n asked.rtype step.judged (inl refl) anchored none step.of itself) said l counts refusal told nothing
        go (inr alias) =
            let led = led_there s ds n asked.rtype step.judged (inl refl) anchored none step.of alias in
            alias_told passes e.table shown.checked (input s ds n asked.rtype step.judged (inl refl) anchored none step.of) led.0
            (honestly s ds n asked.rtype step.judged (inl refl) anchored none step.of led.1) e.algorithms said l counts refusal told nothing

    name_nothing : AnswersItself s n 43 → strictly_above s.apex n ≡ true → IsNameStep e s.apex ds (asking asked n 43) said l counts → said ≡ at_cut said → IsNothing said refusal → refusal ≡ Some r.Memory
    name_nothing none below step cut nothing = go (given s ds n 43 step.judged (inr refl) anchored none step.of).shown
      where
        told : IsCutTold e.algorithms e.table (input s ds n 43 step.judged (inr refl) anchored none step.of) said l counts
        told = subst (λ (x : JudgeInput). IsCutTold e.algorithms e.table x said l counts) step.of.is step.told_is

        go : Itself s ds n 43 step.judged (inr refl) anchored none step.of
            ⊎ ShowsAlias (answers_with passes) pointer_limit (input s ds n 43 step.judged (inr refl) anchored none step.of) (usable_of (given s ds n 43 step.judged (inr refl) anchored none step.of).keys)
            (given s ds n 43 step.judged (inr refl) anchored none step.of).read s.version.mode s.version.records → refusal ≡ Some r.Memory
        go (inl itself) =
            let h : JudgeInput = input s ds n 43 step.judged (inr refl) anchored none step.of in
            let x = given s ds n 43 step.judged (inr refl) anchored none step.of in
            let proper_one = properly s ds n 43 step.judged (inr refl) anchored none step.of in
            let judges = judged_own s ds n 43 step.judged (inr refl) anchored none step.of itself in
            cut_nothing e.algorithms e.table h (verdict_is s ds n 43 step.judged (inr refl) anchored none step.of) refl proper_one.0 proper_one.1 judges
            (λ js are. whether_found passes e.table shown.checked h n (verdict_is s ds n 43 step.judged (inr refl) anchored none step.of)
            (λ none_there no_type. ns_says (answers_with passes) pointer_limit h s.version.mode s.version.records x.keys x.read x.reads x.accepted x.asked_is x.allowed x.hashes itself refl none_there below) below js are (judges js.own are.own)) said l counts refusal told cut nothing
        go (inr alias) =
            let led = led_there s ds n 43 step.judged (inr refl) anchored none step.of alias in
            alias_cut passes e.table shown.checked (input s ds n 43 step.judged (inr refl) anchored none step.of) led.0
            (honestly s ds n 43 step.judged (inr refl) anchored none step.of led.1) e.algorithms said l counts refusal told cut nothing

  only_for_memory : OnlyForMemory e asked zones anchor
  only_for_memory = record {
    own = λ s ds n anchored none said l counts refusal step nothing. own_nothing s ds n anchored said l counts refusal none step nothing;
    name = λ s ds n anchored none below said l counts refusal step cut nothing. name_nothing s ds n anchored said l counts refusal none below step cut nothing;
  }

pub shown_trees_are_walked : TreesSayOne → TreesResolveToOne → ShownTreesAreWalked
shown_trees_are_walked one resolve_one passes e asked limits zones anchor said names w k shown =
    stuck_for e limits said names w
    (λ u. never_refused passes e asked limits.cuts zones anchor names shown.checked shown.keys w (keys_refused e asked limits.cuts zones anchor names k.of (only_for_memory passes e asked zones anchor k.of shown) w u))
    (trees_are_walked one resolve_one e asked limits zones anchor said names w k)

pub shown_trees_come_to_verdicts : TreesSayOne → TreesResolveToOne → ShownTreesComeToVerdicts
shown_trees_come_to_verdicts one resolve_one c asked limits most walks from zones anchor said names k shown =
    comes Never one c asked limits most walks from zones anchor said names k
    (λ calls e reached walk. shown_trees_are_walked one resolve_one c.passes e asked limits zones anchor said names (walks e) walk (shown calls e reached))

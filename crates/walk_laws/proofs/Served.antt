-- Where a walk over evidence of a tree ends whose zones answer as they are published.
use Rattle.std.proofs.Common.{◌≡◌, ℕ, Bool, true, false, List, [], Option, Some, Result, refl, sym, subst, ◌∙◌, ◌⊎◌, inl, inr}
use Rattle.std.proofs.lemmas.Bool.{false≢true}
use Rattle.definitions.specs.Dnskey.{Ds}
use Rattle.definitions.specs.Limits.{pointer_limit}
use Rattle.definitions.specs.Name.{Name, strictly_above}
use Rattle.definitions.specs.Zone.{Verdict, verdict}
use Rattle.messages.specs.Message.{Asked}
use Rattle.answer_terms.specs.Served.{by_tag}
use Rattle.answer_judge.specs.Meeting.{WasGiven}
use Rattle.answer_judge.specs.Judged.{AnswersAs}
use Rattle.answer_judge.specs.Judging.{Says, JudgeInput, answer_of}
use Rattle.answer_judge_facts.specs.declared.validity.Validity.{Validity}
use Rattle.answer_judge.specs.declared.verdict.Judgement.{Judgement}
use Rattle.answer_judge.specs.declared.verdict.Refusal.{Refusal}
use Rattle.answer_judge.specs.declared.verdict.Refusal.TheVariants as r
use Rattle.answer_judge.specs.declared.verdict.Refused.{Refused}
use Rattle.answer_judge_table.specs.Outcomes.{IsJudgedBy}
use Rattle.answer_findings.specs.Judgements.{is_delegated}
use Rattle.answer_findings.specs.Table.{AgreesWith, Tried, answers_with}
use Rattle.tree_laws.specs.Laws.{TreesResolveToOne, TreesSayOne}
use Rattle.resolution_step.specs.Told.{StepSeen, IsCutTold, IsTold, at_cut, verdict_told}
use Rattle.resolution_step.specs.declared.judged_step.Counts.{Counts}
use Rattle.evidence_laws.specs.Given.{Given, IsOf, judge_input}
use Rattle.evidence_laws.specs.Truth.{IsAnchored, SignedZone, zone_of}
use Rattle.evidence_laws.specs.Walking.{IsNameStep, IsOwnStep, renamed}
use Rattle.resolution_walk.specs.Between.{IsNothing}
use Rattle.resolution_walk.specs.Judged.{IsHeard, OfAnswer, OfName, are_keys_refused}
use Rattle.resolution_walk.specs.declared.ending.Walk.{Walk}
use Rattle.walk_laws.specs.Ending.{IsUntoldOf}
use Rattle.message_laws.specs.Shown.{ShowsKeys}
use Rattle.walk_laws.specs.Served.{AnswersItself, AreServed, KeysAreRefused, KeyedTreesAreWalked, ServedTreesAreWalked, ZonesKeys, asking}
use Rattle.walk_laws.proofs.Ending.{trees_are_walked}
use Rattle.walk_laws.specs.Shown.{ShowZonesKeys}
use Rattle.message_laws.proofs.GivenKeys.{keys_shown}
use Rattle.walk_laws.proofs.KeysTold.{cut_told_trusting, nothing_trusting, told_trusting}
use Rattle.walk_laws.proofs.Saying.{cut_nothing, proper, told_nothing}
use Rattle.walk_laws.proofs.Stuck.{OnlyForMemory, keys_refused, stuck_for}
use Rattle.message_laws.proofs.Whether.{TellsDs, delegation_told}
use Rattle.walk_laws.proofs.WhetherFound.{whether_found}

-- ---- a zone's answers

module _ (passes : Tried → Bool) (e : Given) (asked : Asked) (zones : List SignedZone) (anchor : SignedZone) (served : AreServed passes e asked zones anchor) where
  -- what the judge says of an answer that a zone has given
  module _ (s : SignedZone) (ds : List Ds) (n : Name) (t : ℕ) (h : JudgeInput) (kind : (t ≡ asked.rtype) ⊎ (t ≡ 43)) (anchored : IsAnchored e zones anchor s ds) (none : AnswersItself s n t) (is : IsOf e s.apex ds (asking asked n t) h) where
    abbrev input : JudgeInput
    input = judge_input e s.apex ds (asking asked n t) is.keys is.answer

    abbrev verdict_is : Verdict
    verdict_is = verdict (zone_of s).zone (zone_of s).optout n t

    properly : (is_delegated verdict_is ≡ false) × ((refusal : Option Refusal) → IsNothing (verdict_told verdict_is) refusal → ⊥)
    properly = proper (zone_of s).zone (zone_of s).optout n t none.1 verdict_is refl

    was_given : WasGiven (answers_with passes) pointer_limit input s.version.mode s.version.records
    was_given = subst (λ (x : JudgeInput). WasGiven (answers_with passes) pointer_limit x s.version.mode s.version.records) is.is (served.given s ds n t h kind anchored none is)

    judged_so : (js : Result Judgement Refused) → IsJudgedBy e.table input js → AnswersAs (answer_of js) (Says verdict_is)
    judged_so js judged = (judged.by_table passes served.checked).given s.version.mode s.version.records was_given

  module _ (s : SignedZone) (ds : List Ds) (n : Name) (anchored : IsAnchored e zones anchor s ds) (said : StepSeen) (l : Option Validity) (counts : Counts) (refusal : Option Refusal) where
    own_nothing : AnswersItself s n asked.rtype → IsOwnStep e s.apex ds (asking asked n asked.rtype) said l counts → IsNothing said refusal → refusal ≡ Some r.Memory
    own_nothing none step nothing =
        let h : JudgeInput = input s ds n asked.rtype step.judged (inl refl) anchored none step.of in
        let told : IsTold e.algorithms e.table h said l counts = subst (λ (x : JudgeInput). IsTold e.algorithms e.table x said l counts) step.of.is step.told_is in
        let proper_one = properly s ds n asked.rtype step.judged (inl refl) anchored none step.of in
        told_nothing e.algorithms e.table h (verdict_is s ds n asked.rtype step.judged (inl refl) anchored none step.of) proper_one.0 proper_one.1
        (judged_so s ds n asked.rtype step.judged (inl refl) anchored none step.of) said l counts refusal told nothing

    name_nothing : AnswersItself s n 43 → strictly_above s.apex n ≡ true → IsNameStep e s.apex ds (asking asked n 43) said l counts → said ≡ at_cut said → IsNothing said refusal → refusal ≡ Some r.Memory
    name_nothing none below step cut nothing =
        let h : JudgeInput = input s ds n 43 step.judged (inr refl) anchored none step.of in
        let told : IsCutTold e.algorithms e.table h said l counts = subst (λ (x : JudgeInput). IsCutTold e.algorithms e.table x said l counts) step.of.is step.told_is in
        let proper_one = properly s ds n 43 step.judged (inr refl) anchored none step.of in
        let judges = judged_so s ds n 43 step.judged (inr refl) anchored none step.of in
        let given : WasGiven (answers_with passes) pointer_limit h s.version.mode s.version.records = was_given s ds n 43 step.judged (inr refl) anchored none step.of in
        let tells : TellsDs (answers_with passes) pointer_limit h n s.version.mode s.version.records = record {
          read = given.answer_told.read;
          reads = given.answer_told.reads;
          keys = by_tag given.zonesigners;
          at = given.answer_at;
          life = given.life;
          groups_are = given.answer_told.groups_are;
        } in
        cut_nothing e.algorithms e.table h (verdict_is s ds n 43 step.judged (inr refl) anchored none step.of) refl proper_one.0 proper_one.1 judges
        (λ js are. whether_found passes e.table served.checked h n (verdict_is s ds n 43 step.judged (inr refl) anchored none step.of) (λ none_there. delegation_told (answers_with passes) pointer_limit h n s.version.mode s.version.records tells none_there below) below js are (judges js.own are.own)) said l counts refusal told cut nothing

  only_for_memory : OnlyForMemory e asked zones anchor
  only_for_memory = record {
    own = λ s ds n anchored none said l counts refusal step nothing. own_nothing s ds n anchored said l counts refusal none step nothing;
    name = λ s ds n anchored none below said l counts refusal step cut nothing. name_nothing s ds n anchored said l counts refusal none below step cut nothing;
  }

pub served_trees_are_walked : TreesSayOne → TreesResolveToOne → ServedTreesAreWalked
served_trees_are_walked one resolve_one passes e asked limits zones anchor said names w k served =
    stuck_for e limits said names w (keys_refused e asked limits.cuts zones anchor names k.of (only_for_memory passes e asked zones anchor served) w) (trees_are_walked one resolve_one e asked limits zones anchor said names w k)

-- ---- where keys are shown, as those that were given

pub show_keys : (passes : Tried → Bool) (e : Given) (zones : List SignedZone) (anchor : SignedZone) → ZonesKeys passes e zones anchor → ShowZonesKeys passes e zones anchor
show_keys passes e zones anchor keys s ds octets anchored there =
    keys_shown (answers_with passes) pointer_limit (judge_input e s.apex ds (record { name = s.apex; rtype = 48; class = 1 }) octets []) (keys s ds octets anchored there)

module _ (passes : Tried → Bool) (e : Given) (asked : Asked) (cuts : ℕ) (zones : List SignedZone) (anchor : SignedZone) (names : List Name) (checked : AgreesWith e.table passes) (keys : ShowZonesKeys passes e zones anchor) where
  keys_there : (s : SignedZone) (ds : List Ds) (q : Asked) (h : JudgeInput) → IsAnchored e zones anchor s ds → IsOf e s.apex ds q h → ShowsKeys (answers_with passes) pointer_limit h.apex h.ds h.dnskey_bytes h.now
  keys_there s ds q h anchored is =
      subst (λ (x : JudgeInput). ShowsKeys (answers_with passes) pointer_limit x.apex x.ds x.dnskey_bytes x.now) (sym is.is) (keys s ds is.keys anchored is.keys_are)

  keys_unrefused : (w : Walk) (u : IsUntoldOf asked cuts zones anchor names e w) → are_keys_refused u.refusal ≡ false
  keys_unrefused w u = go u.untold.said u.untold.heard u.untold.nothing
    where
      go : (said : StepSeen) → IsHeard e (renamed asked u.name) u.zone.apex u.ds u.untold.sought said u.untold.validity → IsNothing said u.refusal → are_keys_refused u.refusal ≡ false
      go said (OfAnswer n same memory step) nothing =
          nothing_trusting said u.refusal (told_trusting passes e.table checked e.algorithms step.judged (keys_there u.zone u.ds (renamed asked u.name) step.judged u.anchored step.of) said u.untold.validity n step.told_is) nothing
      go said (OfName n between memory step cut) nothing =
          nothing_trusting said u.refusal (cut_told_trusting passes e.table checked e.algorithms step.judged (keys_there u.zone u.ds u.untold.sought step.judged u.anchored step.of) said u.untold.validity n step.told_is) nothing

  pub never_refused : (w : Walk) → KeysAreRefused asked cuts zones anchor names e w → ⊥
  never_refused w k = false≢true (sym (keys_unrefused w k.untold) ∙ k.refused)

pub keyed_trees_are_walked : TreesSayOne → TreesResolveToOne → KeyedTreesAreWalked
keyed_trees_are_walked one resolve_one passes e asked limits zones anchor said names w k served =
    stuck_for e limits said names w (never_refused passes e asked limits.cuts zones anchor names served.served.checked (show_keys passes e zones anchor served.keys) w)
    (served_trees_are_walked one resolve_one passes e asked limits zones anchor said names w k served.served)

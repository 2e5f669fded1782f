-- Whether a name is delegated is found by a zone's answer for DS there that shows that there is none.
use Rattle.std.proofs.Common.{◌≡◌, Bool, true, false, List, Option, Some, None, refl, sym, ap, subst, ◌∙◌, inl, inr}
use Rattle.std.specs.Prelude.{IfSome, if◌then◌else◌}
use Rattle.std.proofs.lemmas.Bool.{false≢true}
use Rattle.definitions.specs.Limits.{pointer_limit}
use Rattle.definitions.specs.Name.{Name, same, strictly_above}
use Rattle.definitions.specs.Zone.{Verdict, NoType}
use Rattle.messages.specs.Message.{Asked}
use Rattle.answer_judge.specs.Judged.{AnswersAs, judged}
use Rattle.answer_judge.specs.Judging.{JudgeInput, Refuses, Says, answer_of}
use Rattle.answer_judge.specs.declared.verdict.Refusal.TheVariants as r
use Rattle.answer_judge_table.specs.Decided.{is_out_of_memory}
use Rattle.answer_judge_table.specs.Outcomes.{IsJudgedBy}
use Rattle.answer_findings.specs.Found.{AreJudgements}
use Rattle.answer_findings.specs.Judgements.{IsMade, IsMadeInMemory, aside, asked_in, asking, is_delegated, ns_question, question_of}
use Rattle.answer_findings.specs.Seen.{delegates_found, delegates_said}
use Rattle.answer_findings.specs.Table.{AgreesWith, Checked, Tried, answers_with}
use Rattle.message_laws.proofs.ShownDs.{SaysSome}

-- whether it is was found
abbrev pub IsWhetherFound : Option Bool → Type 0
IsWhetherFound found = (d : Bool) × (found ≡ Some d)

module _ (passes : Tried → Bool) (table : List Checked) (agrees : AgreesWith table passes) (h : JudgeInput) (n : Name) (verdict_is : Verdict) where
  abbrev of_ds : JudgeInput
  of_ds = aside h (asking h n 43)

  abbrev of_ns : JudgeInput
  of_ns = aside h (asking h n 2)

  -- a judgement of NS there says something
  made_says : (v : Verdict) → judged (answers_with passes) pointer_limit of_ns ≡ Says v → (made : _) → asked_in made ≡ Some (asking h n 2) → IfSome made (IsMade table h) → IfSome made IsMadeInMemory
      → IsWhetherFound (elim made as (λ _. Option Bool) [ None ↦ None | Some m ↦ delegates_said (answer_of m.said) ])
  made_says v says None wanted made in_memory = absurd (let both : None ≡ Some (asking h n 2) = wanted in cc)
  made_says v says (Some m) wanted made in_memory =
      let asked_is : question_of m ≡ asking h n 2 = (let both : Some (question_of m) ≡ Some (asking h n 2) = wanted in cc) in
      let is : IsJudgedBy table of_ns m.said = subst (λ (q : Asked). IsJudgedBy table (aside h q) m.said) asked_is made in
      go (is.by_table passes agrees).exact
    where
      go : AnswersAs (answer_of m.said) (judged (answers_with passes) pointer_limit of_ns) → IsWhetherFound (delegates_said (answer_of m.said))
      go (inl ran_out) = absurd (false≢true (sym in_memory ∙ ap is_out_of_memory ran_out))
      go (inr said) = (is_delegated v, ap delegates_said (said ∙ says))

  -- where the answer for DS says that there is none, the one for NS says something
  module _ (tells : verdict_is ≡ NoType → judged (answers_with passes) pointer_limit of_ds ≡ Says NoType → SaysSome (judged (answers_with passes) pointer_limit of_ns)) (below : strictly_above h.apex n ≡ true) where
    pub whether_found : (js : _) → AreJudgements table of_ds js → AnswersAs (answer_of js.own) (Says verdict_is) → answer_of js.own ≡ Says NoType → IsWhetherFound (delegates_found of_ds js.ns)
    whether_found js are own is = go (same n h.apex)
      where
        verdict_from : AnswersAs (answer_of js.own) (Says verdict_is) → verdict_is ≡ NoType
        verdict_from (inl ran_out) = absurd (let both : Says NoType ≡ Refuses r.Memory = sym is ∙ ran_out in cc)
        verdict_from (inr said) = (let both : Says NoType ≡ Says verdict_is = sym is ∙ said in cc)

        exact : AnswersAs (answer_of js.own) (judged (answers_with passes) pointer_limit of_ds) → judged (answers_with passes) pointer_limit of_ds ≡ Says NoType
        exact (inl ran_out) = absurd (let both : Says NoType ≡ Refuses r.Memory = sym is ∙ ran_out in cc)
        exact (inr said) = sym said ∙ is

        told : SaysSome (judged (answers_with passes) pointer_limit of_ns)
        told = tells (verdict_from own) (exact (are.own.by_table passes agrees).exact)

        sought : ns_question pointer_limit of_ds (answer_of js.own) ≡ Some (asking h n 2)
        sought = ap (ns_question pointer_limit of_ds) is ∙ ap (λ (b : Bool). if b then Some (asking h n 2) else None) below

        go : (b : Bool) → IsWhetherFound (if b then Some false else (elim js.ns as (λ _. Option Bool) [ None ↦ None | Some m ↦ delegates_said (answer_of m.said) ]))
        go true = (false, refl)
        go false = made_says told.0 told.1 js.ns (are.ns.asked ∙ sought) are.ns.judged are.ns.in_memory

-- How many names a search hashes.
use Rattle.std.proofs.Common.{◌≡◌, ◌+◌, ℕ, List, Option, Result, Ok, Err, IfOk, ap, subst, sym, ◌∙◌}
use Rattle.std.specs.Global.{Vec}
use Rattle.std.specs.declared.alloc.AllocError.{AllocError}
use Rattle.answer_judge.specs.Judging.{JudgeInput, hashes_of}
use Rattle.answer_judge.specs.declared.verdict.Judgement.{Judgement}
use Rattle.answer_judge.specs.declared.verdict.Refused.{Refused}
use Rattle.answer_judge_table.specs.Outcomes.{hashes_of_outcome}
use Rattle.answer_judge_table.specs.Table.{Tried}
use Rattle.answer_judge_table.specs.declared.outcome.Outcome.{Outcome}
use Rattle.answer_judge_table.specs.declared.outcome.Outcome.TheVariants as outcome
use Rattle.answer_findings.specs.declared.meaning.AnswerOutcome.{AnswerOutcome}
use Rattle.answer_findings.specs.declared.meaning.AnswerOutcome.TheVariants as f
use Rattle.answer_findings.specs.declared.side_judgements.Judgements.{Judgements}
use Rattle.answer_findings.specs.declared.side_judgements.SideJudgement.{SideJudgement}
use Rattle.answer_findings.specs.Found.{AsksBehind, ComesTo, hashes_found}
use Rattle.answer_findings.specs.Seen.{hashed_aside, hashed_by, hashed_in, judgements_up_to}

module _ (old new : ℕ) where
  -- for the case's own judgement, and for signatures that it wants
  pub own_hashed : (o : Outcome) (own : Result Judgement Refused) → o ≡ outcome.Judged own → new ≡ old + hashes_of_outcome o → new ≡ old + hashes_of own
  own_hashed o own is e = subst (λ o. new ≡ old + hashes_of_outcome o) is e

  pub none_hashed : (o : Outcome) (asks : Vec Tried) → o ≡ outcome.Asks asks → new ≡ old + hashes_of_outcome o → new ≡ old + 0
  none_hashed o asks is e = subst (λ o. new ≡ old + hashes_of_outcome o) is e

  -- for another one, and for signatures that it wants
  pub made_hashed : {E : Type 0} (r : Result (Option SideJudgement) E) (made : Option SideJudgement) → r ≡ Ok made → new ≡ old + hashed_aside r → new ≡ old + hashed_in made
  made_hashed r made is e = subst (λ r. new ≡ old + hashed_aside r) is e

  pub asks_hashed : {E : Type 0} (r : Result (Option SideJudgement) E) (asks : E) → r ≡ Err asks → new ≡ old + hashed_aside r → new ≡ old + 0
  asks_hashed r asks is e = subst (λ r. new ≡ old + hashed_aside r) is e

  -- for all of them
  pub all_hashed : (h : JudgeInput) (js : Judgements) (r : Result AnswerOutcome AllocError) → IfOk r (ComesTo h js) → new ≡ old + hashed_by js → IfOk r (λ f. new ≡ old + hashes_found f)
  all_hashed h js (Ok (f.Means meaning validity verifications hashes)) to e = e ∙ ap (λ n. old + n) (sym to.3)
  all_hashed h js (Ok (f.Refused refusal verifications hashes)) to e = e ∙ ap (λ n. old + n) (sym to.2)
  all_hashed h js (Ok (f.Asks asks verifications hashes)) to e = absurd to
  all_hashed h js (Err x) to e = tt

-- before signatures are asked for
pub behind_hashed : (asks : List Tried) (own : Result Judgement Refused) (alias ns : Option SideJudgement) (found : AnswerOutcome) → AsksBehind asks (judgements_up_to own alias ns) found
    → hashes_found found ≡ hashes_of own + hashed_in alias + hashed_in ns + 0
behind_hashed asks own alias ns (f.Means meaning validity verifications hashes) is = absurd is
behind_hashed asks own alias ns (f.Refused refusal verifications hashes) is = absurd is
behind_hashed asks own alias ns (f.Asks said verifications hashes) is = is.2

-- Judgements of the evidence by its table, from what they come to by computing.
use Rattle.std.proofs.Common.{◌≡◌, ℕ, ◌<◌, Bool, true, false, [], Option, Some, None, Ok, Err, nat_le, unwrap_or, refl, sym, ap, ◌∙◌, inr}
use Rattle.std.proofs.lemmas.Bool.{leb-true}
use Rattle.definitions.specs.Limits.{pointer_limit}
use Rattle.answer_scheme.specs.Answers.{Answers}
use Rattle.answer_judge_facts.specs.declared.validity.Validity.{Validity}
use Rattle.answer_judge_rules.specs.Rules.{verdict_of}
use Rattle.answer_judge_rules.specs.declared.verdict.Verdict.{Verdict}
use Rattle.answer_judge.specs.Due.{hashes_due, verifications_due}
use Rattle.answer_judge.specs.Honest.{AnswersHonest}
use Rattle.answer_judge.specs.Judged.{judged}
use Rattle.answer_judge.specs.Judging.{Answer, AnswersFirst, JudgeInput, Refuses, Says, first_refusal, hash_bound, verification_bound}
use Rattle.answer_judge.specs.Lasts.{validity_of_input}
use Rattle.answer_judge.specs.Meeting.{IsJudgement}
use Rattle.answer_judge.specs.declared.verdict.Judgement.{Judgement}
use Rattle.answer_judge.specs.declared.verdict.Refusal.TheVariants as r
use Rattle.answer_judge.specs.declared.verdict.Refused.{Refused}
use Rattle.answer_judge.proofs.GivenAnswers.{answers_given}
use Rattle.answer_judge.proofs.HonestJudged.{answers_honest}
use Rattle.answer_judge.proofs.Timely.{refuses_untimely}
use Rattle.answer_judge_table.specs.Outcomes.{IsJudgedBy}
use Rattle.answer_judge_table.specs.Table.{AgreesWith, AreTrue, Tried, answers_with, passes_in, told}
use Rattle.answer_judge_table.proofs.HonestTable.{stays_honest}
use Rattle.witness_laws.specs.Evidence.{evidence}
use Rattle.witness_laws.proofs.Ready.{ready, ready_is}

-- ---- signatures that the table has are looked up there

abbrev looked_up : (Tried → Bool) → Tried → Bool
looked_up passes t = unwrap_or (told evidence.table t) (passes t)

alike_at : (passes : Tried → Bool) → AgreesWith evidence.table passes → (t : Tried) (o : Option Bool) → told evidence.table t ≡ o → passes t ≡ unwrap_or o (passes t)
alike_at passes agrees t None is = refl
alike_at passes agrees t (Some b) is = agrees t b is

abbrev pub by_table : (Tried → Bool) → Answers
by_table passes = ready (looked_up passes)

by_table_is : (passes : Tried → Bool) → AgreesWith evidence.table passes → answers_with passes ≡ by_table passes
by_table_is passes agrees = (λ i. answers_with (λ t. alike_at passes agrees t (told evidence.table t) refl i)) ∙ ready_is (looked_up passes)

-- ---- a judgement

-- What is computed, whichever other signatures pass: what is said, how often is verified and hashed for it, and how long it lasts.
pub record Comes (h : JudgeInput) (answer : Answer) (verifications hashes : ℕ) (validity : Option Validity) : Type 0 where
  pub first : first_refusal pointer_limit h ≡ None
  pub some : h.ds ≡ [] → ⊥
  pub few : nat_le verifications (verification_bound pointer_limit h) ≡ true
  pub few_hashes : nat_le hashes (hash_bound h) ≡ true
  pub short : h.limit < 65536
  pub says : (passes : Tried → Bool) → judged (by_table passes) pointer_limit h ≡ answer
  pub verified : (passes : Tried → Bool) → verifications_due (by_table passes) pointer_limit h ≡ verifications
  pub hashed : (passes : Tried → Bool) → hashes_due (by_table passes) pointer_limit h ≡ hashes
  pub lasts : (passes : Tried → Bool) → validity_of_input (by_table passes) pointer_limit h ≡ validity

module _ (h : JudgeInput) (answer : Answer) (verifications hashes : ℕ) (validity : Option Validity) (c : Comes h answer verifications hashes validity) (first : AnswersFirst answer (first_refusal pointer_limit h)) where
  is_judgement : (passes : Tried → Bool) → AgreesWith evidence.table passes → IsJudgement pointer_limit (answers_with passes) h answer verifications hashes
  is_judgement passes agrees =
      let same : answers_with passes ≡ by_table passes = by_table_is passes agrees in
      let exact : answer ≡ judged (answers_with passes) pointer_limit h = sym ((λ i. judged (same i) pointer_limit h) ∙ c.says passes) in
      record {
        keeps = record {
          first = first;
          empty = λ asked none. absurd (c.some none);
          verifications_bound = leb-true verifications (verification_bound pointer_limit h) c.few;
          hashes_bound = leb-true hashes (hash_bound h) c.few_hashes;
        };
        exact = inr exact;
        counts = inr (sym ((λ i. verifications_due (same i) pointer_limit h) ∙ c.verified passes));
        hash_counts = inr (sym ((λ i. hashes_due (same i) pointer_limit h) ∙ c.hashed passes));
        given = answers_given (answers_with passes) pointer_limit h answer c.short (inr exact);
        honest = answers_honest (answers_with passes) pointer_limit h answer (inr exact);
        timely = refuses_untimely (answers_with passes) pointer_limit h answer (inr exact);
      }

  lasts_so : (passes : Tried → Bool) → AgreesWith evidence.table passes → validity ≡ validity_of_input (answers_with passes) pointer_limit h
  lasts_so passes agrees = sym ((λ i. validity_of_input (by_table_is passes agrees i) pointer_limit h) ∙ c.lasts passes)

  honest_so : (passes : Tried → Bool) → AreTrue (passes_in evidence.table) passes → AnswersHonest (answers_with passes) pointer_limit h answer
  honest_so passes true_are =
      stays_honest (passes_in evidence.table) passes true_are pointer_limit h answer
      (is_judgement (passes_in evidence.table) (λ t b is. ap (λ (o : Option Bool). unwrap_or o false) is)).honest

-- it says a verdict
abbrev pub judgement : Verdict → ℕ → ℕ → Option Validity → Judgement
judgement v verifications hashes validity = record { verdict = v; verifications = verifications; hashes = hashes; validity = validity }

pub judged_so : (h : JudgeInput) (v : Verdict) (verifications hashes : ℕ) (validity : Option Validity) → Comes h (Says (verdict_of v)) verifications hashes validity → IsJudgedBy evidence.table h (Ok (judgement v verifications hashes validity))
judged_so h v verifications hashes validity c = record {
  by_table = is_judgement h (Says (verdict_of v)) verifications hashes validity c c.first;
  lasts = lasts_so h (Says (verdict_of v)) verifications hashes validity c c.first;
  honest = honest_so h (Says (verdict_of v)) verifications hashes validity c c.first;
}

-- or that nothing is proven
abbrev pub unproven : ℕ → ℕ → Refused
unproven verifications hashes = record { refusal = r.NotProven; verifications = verifications; hashes = hashes }

pub judged_unproven : (h : JudgeInput) (verifications hashes : ℕ) (validity : Option Validity) → Comes h (Refuses r.NotProven) verifications hashes validity → IsJudgedBy evidence.table h (Err (unproven verifications hashes))
judged_unproven h verifications hashes validity c = record {
  by_table = is_judgement h (Refuses r.NotProven) verifications hashes validity c c.first;
  lasts = λ passes agrees. tt;
  honest = honest_so h (Refuses r.NotProven) verifications hashes validity c c.first;
}

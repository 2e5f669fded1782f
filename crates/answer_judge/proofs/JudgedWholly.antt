-- What a judgement is, from what it answers and counts.
use Rattle.std.proofs.Common.{◌≡◌, ◌<◌, ℕ, Bool, true, false, not, length, inr, refl, sym, subst}
use Rattle.std.specs.Prelude.{Option, Some, None, nat_eq, if◌then◌else◌}
use Rattle.definitions.specs.Limits.{pointer_limit}
use Rattle.definitions.specs.Zone.{Unsigned}
use Rattle.answer_scheme.specs.Answers.{Answers, EachAgreeing, SignatureTest, with_test}
use Rattle.answer_judge.specs.Due.{Counts, hashes_in_bytes, tries_in_bytes}
use Rattle.answer_judge.specs.Judged.{AnswersAs, judged, judged_bytes}
use Rattle.answer_judge.specs.Judging.{Answer, JudgeInput, Judges, Refuses, Says, is_judged, message_refusal}
use Rattle.answer_judge.specs.declared.verdict.Refusal.{Refusal}
use Rattle.answer_judge.specs.declared.verdict.Refusal.TheVariants as r
use Rattle.answer_judge_facts.proofs.JudgeAsked.{agreed_by}
use Rattle.answer_judge.specs.Beyond.{SaysBeyond}
use Rattle.answer_judge.specs.Meeting.{IsJudgement}
use Rattle.answer_judge.proofs.GivenAnswers.{answers_given}
use Rattle.answer_judge.proofs.HonestJudged.{answers_honest}
use Rattle.answer_judge.proofs.Timely.{refuses_untimely}

module _ (a : Answers) (h : JudgeInput) (short : h.limit < 65536) where
  -- the refusal in front of all others, or that of the messages
  abbrev first : Bool → Bool → Option Refusal
  first allowed empty = if not allowed then Some r.QuestionNotAllowed else if empty then None else message_refusal pointer_limit h

  abbrev said_then : Bool → Bool → Answer
  said_then allowed empty = elim (first allowed empty) as (λ _. Answer) [ Some e ↦ Refuses e | None ↦ if empty then Says Unsigned else judged_bytes a pointer_limit h ]

  abbrev counted_then : ℕ → Bool → Bool → ℕ
  counted_then n allowed empty = elim (first allowed empty) as (λ _. ℕ) [ Some e ↦ 0 | None ↦ if empty then 0 else n ]

  whole : (answer : Answer) (verifications hashes : ℕ) (allowed empty : Bool) → is_judged h ≡ allowed → nat_eq (length h.ds) 0 ≡ empty → Judges pointer_limit h answer verifications hashes
      → AnswersAs answer (said_then allowed empty) → Counts answer verifications (counted_then (tries_in_bytes a pointer_limit h) allowed empty) → Counts answer hashes (counted_then (hashes_in_bytes a pointer_limit h) allowed empty)
      → IsJudgement pointer_limit a h answer verifications hashes
  whole answer verifications hashes allowed empty p q keeps said tried hashed =
      let exact : AnswersAs answer (judged a pointer_limit h) = subst (AnswersAs answer) (λ i. said_then (sym p i) (sym q i)) said in
      record {
        keeps = keeps;
        exact = exact;
        counts = subst (Counts answer verifications) (λ i. counted_then (tries_in_bytes a pointer_limit h) (sym p i) (sym q i)) tried;
        hash_counts = subst (Counts answer hashes) (λ i. counted_then (hashes_in_bytes a pointer_limit h) (sym p i) (sym q i)) hashed;
        given = answers_given a pointer_limit h answer short exact;
        honest = answers_honest a pointer_limit h answer exact;
        timely = refuses_untimely a pointer_limit h answer exact;
      }

  -- beside a DS set that isn't empty, of a question that is judged
  pub wholly : (answer : Answer) (verifications hashes : ℕ) → is_judged h ≡ true → nat_eq (length h.ds) 0 ≡ false → Judges pointer_limit h answer verifications hashes
      → SaysBeyond a pointer_limit h answer verifications hashes → IsJudgement pointer_limit a h answer verifications hashes
  wholly answer verifications hashes p q keeps (said, tried, hashed) = whole answer verifications hashes true false p q keeps said tried hashed

  -- of a question that isn't judged
  pub unjudged : is_judged h ≡ false → Judges pointer_limit h (Refuses r.QuestionNotAllowed) 0 0 → IsJudgement pointer_limit a h (Refuses r.QuestionNotAllowed) 0 0
  unjudged p keeps = whole (Refuses r.QuestionNotAllowed) 0 0 false (nat_eq (length h.ds) 0) p refl keeps (inr refl) (inr refl) (inr refl)

-- beside such a DS set, what is said of both messages under each test of signatures that agrees with what was answered is said of
-- the case
pub each_wholly : (own was : Answers) (agrees : SignatureTest → Type 0) (h : JudgeInput) (answer : Answer) (verifications hashes : ℕ) → h.limit < 65536 → was ≡ own
    → is_judged h ≡ true → nat_eq (length h.ds) 0 ≡ false → Judges pointer_limit h answer verifications hashes
    → EachAgreeing was agrees (λ a. SaysBeyond a pointer_limit h answer verifications hashes)
    → EachAgreeing own agrees (λ a. IsJudgement pointer_limit a h answer verifications hashes)
each_wholly own was agrees h answer verifications hashes short same allowed some keeps said test fits =
    let fit = agreed_by own was test (agrees test) same fits in
    wholly (with_test own test) h short answer verifications hashes allowed some keeps
    (subst (λ (a : Answers). SaysBeyond (with_test a test) pointer_limit h answer verifications hashes) same (said test fit))

-- a test that agrees with checks agrees with what they are
pub agrees_too : {C : Type 0} (agrees : C → SignatureTest → Type 0) (new now : C) (test : SignatureTest) → agrees new test → new ≡ now → agrees now test
agrees_too agrees new now test h same = subst (λ c. agrees c test) same h

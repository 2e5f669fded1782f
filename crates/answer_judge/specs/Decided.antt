-- Judgements that wait for no signature any more.
use Rattle.std.specs.Prelude.{◌≡◌, ◌⊎◌, ℕ, ◌≤◌, Bool, true, false, None}
use Rattle.definitions.specs.Limits.{pointer_limit}
use Rattle.answer_scheme.specs.Answers.{Answers, EachAgreeing, SignatureTest}
use Rattle.answer_judge.specs.Judging.{Answer, AnswersFirst, JudgeInput, Refuses, hash_bound, message_refusal}
use Rattle.answer_judge.specs.declared.verdict.Refusal.TheVariants as r
use Rattle.answer_judge.specs.Beyond.{SaysBeyond}
use Rattle.answer_judge.specs.Meeting.{IsJudgement}

-- a judgement that ended for want of memory
abbrev pub is_out_of_memory : Answer → Bool
is_out_of_memory (Refuses r.Memory) = true
is_out_of_memory _ = false

-- In memory enough there is one judgement, whichever signatures verify of those that were not looked up, after as many
-- verifications.
pub record IsDecided (own : Answers) (agrees : SignatureTest → Type 0) (k : ℕ) (h : JudgeInput) (verifications : ℕ) : Type 0 where
  pub answer : Answer
  pub hashes : ℕ
  pub in_memory : is_out_of_memory answer ≡ false
  pub made : EachAgreeing own agrees (λ a. IsJudgement k a h answer verifications hashes)

-- No name was hashed, or it was decided before: all signatures that are due were verified.
abbrev pub HashesDecided : Answers → (SignatureTest → Type 0) → ℕ → JudgeInput → ℕ → ℕ → Type 0
HashesDecided own agrees k h verifications hashes = (hashes ≡ 0) ⊎ IsDecided own agrees k h verifications

-- ---- beside a DS set that isn't empty, where the question is allowed

pub record IsDecidedBeyond (own : Answers) (agrees : SignatureTest → Type 0) (h : JudgeInput) (verifications : ℕ) : Type 0 where
  pub answer : Answer
  pub hashes : ℕ
  pub in_memory : is_out_of_memory answer ≡ false
  pub none : message_refusal pointer_limit h ≡ None
  pub last : AnswersFirst answer None
  pub few : hashes ≤ hash_bound h
  pub says : EachAgreeing own agrees (λ a. SaysBeyond a pointer_limit h answer verifications hashes)

abbrev pub HashesDecidedBeyond : Answers → (SignatureTest → Type 0) → JudgeInput → ℕ → ℕ → Type 0
HashesDecidedBeyond own agrees h verifications hashes = (hashes ≡ 0) ⊎ IsDecidedBeyond own agrees h verifications

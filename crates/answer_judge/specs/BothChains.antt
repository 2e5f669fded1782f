-- One zone with a chain of names, and with a chain of hashes.
use Rattle.std.specs.Prelude.{◌≡◌, ℕ, false, List}
use Rattle.definitions.specs.Zone.{Verdict}
use Rattle.definitions.specs.ZoneChain.{Nsec, Nsec3}
use Rattle.messages.specs.HandedRr.{HandedRr}
use Rattle.answer_scheme.specs.Answers.{Answers}
use Rattle.answer_judge.specs.Judged.{AnswersAs}
use Rattle.answer_judge.specs.Judging.{Answer, JudgeInput, Says}
use Rattle.answer_judge.specs.Meeting.{IsJudgement, WasGiven}

-- A judgement, and the counts of its verifications and hashes.
pub record Decision (k : ℕ) (a : Answers) (h : JudgeInput) : Type 0 where
  pub answer : Answer
  pub verifications : ℕ
  pub hashes : ℕ
  pub is : IsJudgement k a h answer verifications hashes

-- What the zone of these records gave for one question with either chain, without opt-out, is judged alike, memory aside.
abbrev pub ChainsSayTheSame : Type 0
ChainsSayTheSame =
    (a b : Answers) (k : ℕ) (named hashed : JudgeInput) (rs : List HandedRr) (iterations : ℕ) (salt : List ℕ)
    → hashed.apex ≡ named.apex → hashed.asked ≡ named.asked
    → WasGiven a k named Nsec rs → WasGiven b k hashed (Nsec3 iterations salt false) rs
    → (x : Decision k a named) (y : Decision k b hashed)
    → (v : Verdict) × AnswersAs x.answer (Says v) × AnswersAs y.answer (Says v)

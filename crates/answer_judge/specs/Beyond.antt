-- What is said of both messages beside a DS set that isn't empty, where the question is allowed.
use Rattle.std.specs.Prelude.{ℕ}
use Rattle.answer_scheme.specs.Answers.{Answers}
use Rattle.answer_judge.specs.Due.{Counts, hashes_beyond, tries_beyond}
use Rattle.answer_judge.specs.Judged.{AnswersAs, judged_beyond}
use Rattle.answer_judge.specs.Judging.{Answer, JudgeInput}

-- the definitions' answer, after as many verifications and hashes as they come to
abbrev pub SaysBeyond : Answers → ℕ → JudgeInput → Answer → ℕ → ℕ → Type 0
SaysBeyond a k h answer verifications hashes =
    AnswersAs answer (judged_beyond a k h) × Counts answer verifications (tries_beyond a k h) × Counts answer hashes (hashes_beyond a k h)

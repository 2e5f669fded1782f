-- A judge says no false verdict of honest messages.
use Rattle.std.specs.Prelude.{ℕ}
use Rattle.answer_scheme.specs.Answers.{Answers}
use Rattle.answer_judge.specs.Honest.{AnswersHonest}
use Rattle.answer_judge.specs.Judging.{Answer, JudgeInput}
use Rattle.answer_judge.specs.Judged.{AnswersAs, judged}

-- Whatever is exact, memory aside, is this.
abbrev pub NoFalseVerdict : Type 0
NoFalseVerdict = (a : Answers) (k : ℕ) (h : JudgeInput) (answer : Answer) → AnswersAs answer (judged a k h) → AnswersHonest a k h answer

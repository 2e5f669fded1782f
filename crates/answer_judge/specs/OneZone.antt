-- What is said of a zone that doesn't change follows from what is said of versions.
use Rattle.std.specs.Prelude.{ℕ}
use Rattle.answer_scheme.specs.Answers.{Answers}
use Rattle.answer_judge.specs.Judging.{Answer, JudgeInput}
use Rattle.answer_judge.specs.Honest.{AnswersHonest, AnswersHonestOf}

abbrev pub HonestOfOneZone : Type 0
HonestOfOneZone = (a : Answers) (k : ℕ) (h : JudgeInput) (answer : Answer) → AnswersHonest a k h answer → AnswersHonestOf a k h answer

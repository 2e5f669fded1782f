-- What an outcome is.
use Rattle.std.specs.Prelude.{ℕ, Bool, List, Result}
use Rattle.definitions.specs.Limits.{pointer_limit}
use Rattle.answer_judge.specs.Judging.{JudgeInput, answer_of, hashes_of}
use Rattle.answer_judge.specs.declared.verdict.Judgement.{Judgement}
use Rattle.answer_judge.specs.declared.verdict.Refused.{Refused}
use Rattle.answer_judge.specs.Honest.{AnswersHonest}
use Rattle.answer_judge.specs.Meeting.{JudgesSo}
use Rattle.answer_judge.specs.Lasts.{LastsSo}
use Rattle.answer_judge_table.specs.declared.outcome.Outcome.{Outcome}
use Rattle.answer_judge_table.specs.declared.outcome.Outcome.TheVariants as o
use Rattle.answer_judge_table.specs.Asking.{AreAsked}
use Rattle.answer_judge_table.specs.Table.{AgreesWith, AreTrue, Checked, Tried, answers_with, passes_in}

-- What is said is a judgement whichever signatures pass that the table doesn't have, and so is how long it lasts: nothing was wanted
-- that it lacks. Whatever signatures truly pass, those that pass in the table among them, of honest messages no verdict is said but
-- that of a version of the zone, in which the name is no alias.
pub record IsJudgedBy (table : List Checked) (h : JudgeInput) (said : Result Judgement Refused) : Type 0 where
  pub by_table : (passes : Tried → Bool) → AgreesWith table passes → JudgesSo pointer_limit (answers_with passes) h said
  pub lasts : (passes : Tried → Bool) → AgreesWith table passes → LastsSo pointer_limit (answers_with passes) h said
  pub honest : (passes : Tried → Bool) → AreTrue (passes_in table) passes → AnswersHonest (answers_with passes) pointer_limit h (answer_of said)

-- what comes of a judgement by a table
abbrev pub IsOutcome : List Checked → JudgeInput → Outcome → Type 0
IsOutcome table h (o.Judged said) = IsJudgedBy table h said
IsOutcome table h (o.Asks asks) = AreAsked table h asks.items

-- how many names are hashed for it: as many as what is said counts, and while signatures are missing none
abbrev pub hashes_of_outcome : Outcome → ℕ
hashes_of_outcome (o.Judged said) = hashes_of said
hashes_of_outcome (o.Asks asks) = 0

-- Signatures that are asked for.
use Rattle.std.specs.Prelude.{◌≡◌, ℕ, ◌<◌, ◌≤◌, ◌==◌, Bool, true, false, ◌&&◌, List, [], ◌∷◌, ◌++◌, None, Result, length, is_none, IsOk}
use Rattle.std.specs.List.{AllByRecursion}
use Rattle.definitions.specs.Limits.{pointer_limit}
use Rattle.answer_scheme.specs.Answers.{SignatureTest}
use Rattle.answer_judge.specs.Tried.{is_tried_signature}
use Rattle.answer_judge.specs.Due.{verifications_due}
use Rattle.answer_judge.specs.Judging.{Answer, JudgeInput, verification_bound}
use Rattle.answer_judge.specs.Decided.{is_out_of_memory}
use Rattle.answer_judge.specs.Meeting.{IsJudgement}
use Rattle.answer_judge_table.specs.Table.{AgreesWith, Checked, Tried, answers_with, checked, may_pass_in, passes_by, told}

-- a signature that is asked for, as an entry
abbrev pub unchecked : Tried → Checked
unchecked t = checked t false

-- signatures that a table doesn't have, each once
abbrev pub are_new : List Checked → List Tried → Bool
are_new table [] = true
are_new table (t ∷ ts) = is_none (told table t) && are_new (table ++ unchecked t ∷ []) ts

-- where a signature is new to a table, others that are asked for stay new with it among them
abbrev pub KeepsNew : Tried → List Tried → List Tried → Type 0
KeepsNew t old new = (table : List Checked) → told table t ≡ None → are_new table old ≡ true → are_new table new ≡ true

-- a judgement that ended for want of memory before a name was to be hashed
abbrev pub is_cut_short : Answer → ℕ → Bool
is_cut_short answer hashes = is_out_of_memory answer && (hashes == 0)

-- one that a judgement verifies where these pass
abbrev pub IsTriedBy : (Tried → Bool) → JudgeInput → Tried → Type 0
IsTriedBy passes h t = passes_by (is_tried_signature (answers_with passes) pointer_limit h) t ≡ true

-- how many it verifies then
abbrev pub due_by : (Tried → Bool) → JudgeInput → ℕ
due_by passes h = verifications_due (answers_with passes) pointer_limit h

-- signatures that a judgement verifies where these pass, no more than it verifies
pub record AreTried (passes : Tried → Bool) (h : JudgeInput) (asks : List Tried) : Type 0 where
  pub each : AllByRecursion (IsTriedBy passes h) asks
  pub due : length asks ≤ due_by passes h

-- All that is due: in memory enough a judgement is made, the same whichever others pass, where the table holds and each of these
-- passes.
pub record AreAll (table : List Checked) (h : JudgeInput) (asks : List Tried) : Type 0 where
  pub answer : Answer
  pub verifications : ℕ
  pub hashes : ℕ
  pub in_memory : is_out_of_memory answer ≡ false
  pub made : (passes : Tried → Bool) → AgreesWith table passes → AllByRecursion (λ t. passes t ≡ true) asks → IsJudgement pointer_limit (answers_with passes) h answer verifications hashes

-- Signatures that are asked for: some that the table doesn't have, each once, no more than both messages have. A judgement
-- verifies each where those that the table doesn't have pass: so none that isn't due, none of an RRset that another one verified
-- before, and none where nothing is verified, as beside an empty DS set. They are all that is due.
pub record AreAsked (table : List Checked) (h : JudgeInput) (asks : List Tried) : Type 0 where
  pub some : 0 < length asks
  pub are_new : are_new table asks ≡ true
  pub few : length asks ≤ verification_bound pointer_limit h
  pub tried : AreTried (may_pass_in table) h asks
  pub all : AreAll table h asks

-- Signatures that a judgement wants beside a table: none where the table has all that is due, or those that are asked for.
abbrev pub AreWanted : List Checked → JudgeInput → List Tried → Type 0
AreWanted table h [] = AreAll table h []
AreWanted table h (t ∷ ts) = AreAsked table h (t ∷ ts)

-- ---- what checks know of a judgement

-- a test passes for all that is asked for
abbrev pub PassesEach : List Tried → SignatureTest → Type 0
PassesEach asks test = AllByRecursion (λ t. passes_by test t ≡ true) asks

-- All that the table lacked was kept, a test passes for it, and says of each signature in the table what the table says.
abbrev pub AgreesAsking : {E : Type 0} → List Checked → List Tried → Result (Unit {0}) E → SignatureTest → Type 0
AgreesAsking table asks kept test = IsOk kept × AgreesWith table (passes_by test) × PassesEach asks test

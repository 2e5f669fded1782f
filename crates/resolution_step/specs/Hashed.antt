-- How many names are hashed at a delegation that is proved.
use Rattle.std.specs.Prelude.{ℕ, ◌*◌, Option, Some, None}
use Rattle.definitions.specs.Name.{Name}
use Rattle.answer_judge.specs.Judging.{JudgeInput, hash_bound}
use Rattle.answer_findings.specs.declared.meaning.AnswerOutcome.{AnswerOutcome}
use Rattle.answer_findings.specs.declared.meaning.AnswerOutcome.TheVariants as f
use Rattle.answer_findings.specs.Judgements.{aside, asking}
use Rattle.answer_findings.specs.Seen.{Seen, SeesDelegated, seen}

-- the delegation at which a message is judged for DS too
abbrev pub cut_seen : Seen → Option Name
cut_seen (SeesDelegated c) = c
cut_seen _ = None

abbrev pub cut_in : AnswerOutcome → Option Name
cut_in (f.Means meaning validity verifications hashes) = cut_seen (seen meaning)
cut_in _ = None

-- no more names are hashed there
abbrev pub hash_bound_below : JudgeInput → Option Name → ℕ
hash_bound_below h None = 0
hash_bound_below h (Some c) = 4 * hash_bound (aside h (asking h c 43))

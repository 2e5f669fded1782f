-- How many names are hashed for a call.
use Rattle.std.specs.Prelude.{◌≡◌, ◌⊎◌, ℕ}
use Rattle.answer_judge_octets.specs.Replying.{number_of, report_size}
use Rattle.answer_judge_octets.specs.declared.octets.Report.{Report}
use Rattle.answer_judge_octets.specs.declared.reply.ReplyCode.TheVariants.{OutOfMemory}
use Rattle.resolution_octets.specs.Hashed.{saturated}

-- As many as the report says, as far as 64 bits hold it, or memory ran out; with a report of another size none.
pub record IsReported (old new : Report) (number hashed : ℕ) : Type 0 where
  pub known : old.size ≡ report_size → (saturated new.hashes ≡ saturated hashed) ⊎ (number ≡ number_of OutOfMemory)
  pub unknown : (old.size ≡ report_size → ⊥) → hashed ≡ 0

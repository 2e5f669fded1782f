-- A hasher may be let go against the report of its call.
use Rattle.std.proofs.Common.{◌≡◌, ◌+◌, ℕ, ap, ◌∙◌, arith, inl, inr}
use Rattle.std.specs.Prelude.{◌⊎◌}
use Rattle.answer_judge_octets.specs.Hashed.{CountsReply, CountsReport}
use Rattle.answer_judge_octets.specs.Replying.{number_of}
use Rattle.answer_judge_octets.specs.declared.octets.Report.{Report}
use Rattle.answer_judge_octets.specs.declared.reply.ReplyCode.TheVariants.{OutOfMemory}
use Rattle.resolution_octets.specs.Hashed.{saturated}
use Rattle.resolution_octets.specs.Hashed as walk
use Rattle.zermuita.specs.Counted.{IsReported}

module _ (old new : Report) (number before after : ℕ) (begins : before ≡ 0) where
  abbrev ran_out : Type 0
  ran_out = number ≡ number_of OutOfMemory

  judged : (most : ℕ) → CountsReply most ran_out new.hashes before after → (saturated new.hashes ≡ saturated after) ⊎ ran_out
  judged most (inl all) = inl (ap saturated (let e : new.hashes ≡ after = omega (arith, all, begins) in e))
  judged most (inr few) = inr few.0

  pub judge_reported : (most : ℕ) → CountsReport most ran_out old new before after → IsReported old new number after
  judge_reported most is = record { known = λ size. judged most (is.known size); unknown = λ size. is.unknown size ∙ begins }

  walked : walk.CountsReply ran_out new.hashes before after → (saturated new.hashes ≡ saturated after) ⊎ ran_out
  walked (inl all) = inl (all.said_is ∙ ap saturated (let h = all.hashed in let e : 0 + all.number ≡ after = omega (arith, h, begins) in e))
  walked (inr ran) = inr ran

  pub walk_reported : walk.CountsReport ran_out old new before after → IsReported old new number after
  walk_reported is = record { known = λ size. walked (is.known size); unknown = λ size. is.unknown size ∙ begins }

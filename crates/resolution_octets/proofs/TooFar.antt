-- What is replied to a walk, whether or not it has been too much work.
use Rattle.std.proofs.Common.{◌≡◌, ℕ, Bool, true, false, Result, IfOk, sym, subst}
use Rattle.std.specs.declared.alloc.AllocError.{AllocError}
use Rattle.messages.specs.Message.{Asked}
use Rattle.answer_judge_octets.specs.Replying.{Replied, counted, only, reply_seen}
use Rattle.answer_judge_octets.specs.declared.reply.Reply.{Reply}
use Rattle.answer_judge_octets.specs.declared.reply.ReplyCode.TheVariants as c
use Rattle.evidence_laws.specs.Given.{Given}
use Rattle.resolution_walk.specs.declared.ending.Walk.{Walk}
use Rattle.resolution_octets.specs.Saying.{IsEndSaid, IsSaidWithin}
use Rattle.resolution_octets.specs.declared.walk_reply.ReplyLimits.{ReplyLimits}

module _ (second : ℕ) (limits : ReplyLimits) (e : Given) (asked : Asked) (w : Walk) where
  pub too_far : (far : Bool) (said : Replied) → far ≡ true → said ≡ counted w.counts.verifications w.counts.hashes (only c.TooMuchWork) → IsSaidWithin far second limits e asked w said
  too_far far said is k = subst (λ b. IsSaidWithin b second limits e asked w said) (sym is) k

  pub not_too_far : (far : Bool) (r : Result Reply AllocError) → far ≡ false → IfOk r (λ x. IsEndSaid second limits e asked w w.ending (reply_seen x)) → IfOk r (λ x. IsSaidWithin far second limits e asked w (reply_seen x))
  not_too_far far r is k = subst (λ b. IfOk r (λ x. IsSaidWithin b second limits e asked w (reply_seen x))) (sym is) k

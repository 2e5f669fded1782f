-- How many names are hashed for a reply to a walk.
use Rattle.std.proofs.Common.{◌≡◌, ℕ, Bool, true, false, Result, Ok, Err, IfOk, refl, ap, subst, sym}
use Rattle.std.specs.declared.alloc.AllocError.{AllocError}
use Rattle.messages.specs.Message.{Asked}
use Rattle.answer_judge_octets.specs.Replying.{Replied, reply_seen}
use Rattle.answer_judge_octets.specs.declared.reply.Reply.{Reply}
use Rattle.evidence_laws.specs.Counted.{CountsHashes}
use Rattle.evidence_laws.specs.Given.{Given}
use Rattle.resolution_walk.specs.declared.ending.Ending.{Ending}
use Rattle.resolution_walk.specs.declared.ending.Ending.TheVariants as ends
use Rattle.resolution_walk.specs.declared.ending.Walk.{Walk}
use Rattle.resolution_octets.specs.Saying.{IsEndReplied, IsEndSaid, IsSaid, IsSaidWithin}
use Rattle.resolution_octets.specs.Working.{goes_too_far}
use Rattle.resolution_octets.specs.declared.walk_reply.ReplyLimits.{ReplyLimits}

module _ (second : ℕ) (limits : ReplyLimits) (e : Given) (asked : Asked) (w : Walk) where
  -- whichever it is, the count is that of the walk
  replied_hashes : (said : Replied) → IsEndReplied second e asked w said → said.hashes ≡ w.counts.hashes
  replied_hashes said is = ap (λ (x : Replied). x.hashes) is.is

  end_hashes : (ending : Ending) (said : Replied) → IsEndSaid second limits e asked w ending said → said.hashes ≡ w.counts.hashes
  end_hashes (ends.Asks asks) said is = ap (λ (x : Replied). x.hashes) is.counts
  end_hashes (ends.Wants ws) said is = ap (λ (x : Replied). x.hashes) is
  end_hashes (ends.Secure zone v) said is = replied_hashes said is
  end_hashes (ends.Leads lead) said is = replied_hashes said is
  end_hashes (ends.Unsigned cut datas) said is = replied_hashes said is
  end_hashes (ends.LeftOpen zone) said is = replied_hashes said is
  end_hashes (ends.Untold zone ds name t refusal) said is = replied_hashes said is
  end_hashes ends.TooManyCuts said is = replied_hashes said is
  end_hashes ends.TooManyAliases said is = replied_hashes said is
  end_hashes ends.TooManyMessages said is = replied_hashes said is
  end_hashes ends.Outside said is = replied_hashes said is

  said_hashes : (said : Replied) → IsSaid second limits e asked w said → said.hashes ≡ w.counts.hashes
  said_hashes said is = go (goes_too_far limits.work e w) is
    where
      go : (b : Bool) → IsSaidWithin b second limits e asked w said → said.hashes ≡ w.counts.hashes
      go true is = ap (λ (x : Replied). x.hashes) is
      go false is = end_hashes w.ending said is

  pub reply_hashed : (before after : ℕ) (r : Result Reply AllocError) → IfOk r (λ x. IsSaid second limits e asked w (reply_seen x)) → CountsHashes before after 0 w.counts.hashes
      → IfOk r (λ x. CountsHashes before after 0 x.hashes)
  reply_hashed before after (Ok x) is all = subst (CountsHashes before after 0) (sym (said_hashes (reply_seen x) is)) all
  reply_hashed before after (Err x) is all = tt

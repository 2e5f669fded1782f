-- What a walk over evidence that was read says.
use Rattle.std.proofs.Common.{◌≡◌, ℕ, length, Result, Ok, Err, IfOk, subst}
use Rattle.std.specs.declared.alloc.AllocError.{AllocError}
use Rattle.answer_judge_octets.specs.Replying.{reply_seen}
use Rattle.answer_judge_octets.specs.declared.reply.Reply.{Reply}
use Rattle.evidence_laws.specs.Given.{Given}
use Rattle.resolution_walk.specs.declared.ending.Walk.{Walk}
use Rattle.resolution_octets.specs.Limiting.{limits_of, reply_limits_of}
use Rattle.resolution_octets.specs.ReadEvidence.{asked_in, given_of}
use Rattle.resolution_octets.specs.Replying.{IsWalk, SaysWalked}
use Rattle.resolution_octets.specs.Saying.{IsSaid}
use Rattle.resolution_octets.specs.declared.octets.OctetEvidence.{OctetEvidence}
use Rattle.resolution_octets.specs.declared.octets.ReadEvidence.{ReadEvidence}

pub says_in : (case : OctetEvidence) (r : ReadEvidence) (kept : Given) (w : Walk) (said : Result Reply AllocError)
    → IfOk said (λ x. IsSaid case.moment (reply_limits_of case (length r.table.items)) kept (asked_in r) w (reply_seen x)) → kept ≡ given_of case r → IsWalk (given_of case r) (asked_in r) (limits_of case) w
    → IfOk said (λ x. SaysWalked case (given_of case r) (asked_in r) (reply_seen x))
says_in case r kept w (Ok x) replied given walk = record {
  walk = w;
  is_walk = walk;
  is_said = subst (λ (e : Given). IsSaid case.moment (reply_limits_of case (length r.table.items)) e (asked_in r) w (reply_seen x)) given replied;
}
says_in case r kept w (Err e) replied given walk = tt

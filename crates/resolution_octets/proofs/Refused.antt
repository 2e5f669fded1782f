-- The extended error of a refusal.
use Rattle.std.proofs.Common.{◌≡◌, true, List, Result, Ok, Err, IfOk, ap, refl, ◌∙◌, inl, inr}
use Rattle.std.specs.declared.alloc.AllocError.{AllocError}
use Rattle.definitions.specs.Dnskey.{Ds}
use Rattle.definitions.specs.Name.{Name}
use Rattle.messages.specs.Message.{Asked}
use Rattle.answer_judge.specs.Judging.{JudgeInput}
use Rattle.answer_judge.specs.declared.verdict.Refusal.{Refusal}
use Rattle.answer_extended_errors.specs.declared.error.ExtendedError.{ExtendedError}
use Rattle.answer_extended_errors.specs.declared.error.ExtendedError.TheVariants as x
use Rattle.answer_judge_octets.specs.Replying.{error_of}
use Rattle.evidence_laws.specs.Given.{Given, IsOf}
use Rattle.resolution_walk.specs.Wanted.{is_lacking}
use Rattle.resolution_octets.specs.Saying.{IsErrorOf}

-- by evidence as it is kept, where memory sufficed
pub error_in : (e kept : Given) (zone : Name) (ds : List Ds) (sought : Asked) (h : JudgeInput) (refusal : Refusal) (r : Result ExtendedError AllocError) → kept ≡ e → IsOf e zone ds sought h
    → IfOk r (λ error. error ≡ error_of h kept.table refusal) → IfOk r (IsErrorOf e zone ds sought refusal)
error_in e kept zone ds sought h refusal (Ok error) at of is = inl (h, of, is ∙ ap (λ (g : Given). error_of h g.table refusal) at)
error_in e kept zone ds sought h refusal (Err failed) at of is = tt

pub no_error : (e : Given) (zone : Name) (ds : List Ds) (sought : Asked) (refusal : Refusal) → is_lacking e zone sought ≡ true → IsErrorOf e zone ds sought refusal x.Other
no_error e zone ds sought refusal lacks = inr (lacks, refl)

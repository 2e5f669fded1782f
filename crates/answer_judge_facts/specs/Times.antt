-- The times of the signatures that a judge uses in an answer.
use Rattle.std.specs.Prelude.{ℕ, Bool, true, false, not, ◌&&◌, ◌==◌, List, Option, None}
use Rattle.std.specs.List.{filter_map, list_any}
use Rattle.std.specs.Option.{option_map}
use Rattle.definitions.specs.Name.{Name}
use Rattle.definitions.specs.Signing.{Fields}
use Rattle.messages.specs.Message.{Spelled}
use Rattle.answer_judge_facts.specs.Sought.{answer_sought}
use Rattle.answer_judge_facts.specs.Verified.{Trusting, rrset_in, verified_by}

-- when a signature begins to hold, and when it ends (RFC 4034, 3.1.5)
pub record Times : Type 0 where
  pub inception : ℕ
  pub expiration : ℕ

abbrev pub times_of : Fields → Times
times_of f = record { inception = f.inception; expiration = f.expiration }

abbrev pub same_times : Times → Times → Bool
same_times a b = (a.inception == b.inception) && (a.expiration == b.expiration)

-- two of some are not the same
abbrev pub are_unlike : List Times → Bool
are_unlike ts = list_any (λ a. list_any (λ b. not (same_times a b)) ts) ts

-- those of the first signature that verifies a record's RRset, where it is sought for a question: the RRset that was asked
-- for, and the NSEC and NSEC3 RRsets of one record
abbrev pub times_at : Trusting → ℕ → List ℕ → List Spelled → Name → ℕ → Spelled → Option Times
times_at w k m rs q t r = elim ((r.class == 1) && (answer_sought k m w.apex rs q t).is r.owner r.rtype) [
  | true ↦ option_map times_of (verified_by w k m rs r.owner r.rtype (rrset_in k m rs r.owner r.rtype))
  | false ↦ None
]

-- all that a message's proof of an answer has
abbrev pub proof_times : Trusting → ℕ → List ℕ → List Spelled → Name → ℕ → List Times
proof_times w k m rs q t = filter_map (times_at w k m rs q t) rs

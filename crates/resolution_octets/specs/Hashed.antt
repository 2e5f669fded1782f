-- How many names are hashed for a reply to evidence.
use Rattle.std.specs.Prelude.{◌≡◌, ◌⊎◌, ℕ}
use Rattle.answer_judge_octets.specs.Replying.{report_size}
use Rattle.answer_judge_octets.specs.declared.octets.Report.{Report}
use Rattle.evidence_laws.specs.Counted.{CountsHashes}
pub use Rattle.evidence_laws.specs.Counted.{saturated}

-- as many as a reply says, or memory ran out
abbrev pub CountsReply : Type 0 → ℕ → ℕ → ℕ → Type 0
CountsReply ran_out hashes before after = CountsHashes before after 0 hashes ⊎ ran_out

-- as many as a report says, with a report of another size none
pub record CountsReport (ran_out : Type 0) (old new : Report) (before after : ℕ) : Type 0 where
  pub known : old.size ≡ report_size → CountsReply ran_out new.hashes before after
  pub unknown : (old.size ≡ report_size → ⊥) → after ≡ before

-- How many names are hashed for a reply.
use Rattle.std.specs.Prelude.{◌≡◌, ◌⊎◌, ◌≤◌, ◌+◌, ◌*◌, ℕ, length, Option, Some, None}
use Rattle.definitions.specs.Name.{Name}
use Rattle.messages.specs.NameOctets.{name_of_octets}
use Rattle.answer_judge_octets.specs.declared.octets.OctetCase.{OctetCase}
use Rattle.answer_judge_octets.specs.declared.octets.Report.{Report}
use Rattle.answer_judge_octets.specs.Replying.{report_size}

-- as many as four judgements hash at most, each no more than a name has labels, the root's counted, and one
abbrev pub most_for : Option Name → ℕ
most_for None = 0
most_for (Some n) = 4 * (length n + 2)

-- of the name that is asked for
abbrev pub hash_bound : OctetCase → ℕ
hash_bound case = most_for (name_of_octets case.name.now)

-- As many as a reply says; or memory ran out, and no more than these.
abbrev pub CountsReply : ℕ → Type 0 → ℕ → ℕ → ℕ → Type 0
CountsReply most ran_out hashes before after = (after ≡ before + hashes) ⊎ (ran_out × (after ≤ before + most))

-- as many as a report says, with a report of another size none
pub record CountsReport (most : ℕ) (ran_out : Type 0) (old new : Report) (before after : ℕ) : Type 0 where
  pub known : old.size ≡ report_size → CountsReply most ran_out new.hashes before after
  pub unknown : (old.size ≡ report_size → ⊥) → after ≡ before

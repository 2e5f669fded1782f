-- How often was verified and hashed, and how much work the messages were, over several judgements.
use Rattle.std.specs.Prelude.{◌≡◌, ℕ, ◌+◌, min}
use Rattle.resolution_step.specs.declared.judged_step.Counts.{Counts}

abbrev pub no_counts : Counts
no_counts = record { verifications = 0; hashes = 0; work = 0 }

-- a number of 64 bits, the last one where it is beyond them
abbrev pub saturated : ℕ → ℕ
saturated n = min n 18446744073709551615

abbrev pub plus : Counts → Counts → Counts
plus a b = record { verifications = saturated (a.verifications + b.verifications); hashes = saturated (a.hashes + b.hashes); work = saturated (a.work + b.work) }

-- How many names were hashed in between, by which a count goes on from another, as far as 64 bits hold it.
pub record CountsHashes (before after from said : ℕ) : Type 0 where
  pub number : ℕ
  pub hashed : after ≡ before + number
  pub said_is : saturated said ≡ saturated (from + number)

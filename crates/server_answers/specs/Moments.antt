-- The moment that answers are of.
use Rattle.std.specs.Prelude.{◌≡◌, ◌⊎◌, ℕ, ◌-◌, ◌*◌, Option}
use Rattle.answer_publisher.specs.Replacing.{noted}

-- some seconds before a moment, both in nanoseconds since the beginning of 1970; that beginning where it would be earlier
abbrev pub backdated : ℕ → ℕ → ℕ
backdated now seconds = now - seconds * 1000000000

-- the greatest second of an answer stayed, or an answer of a moment was noted
abbrev pub IsOrWasNoted : ℕ → Option ℕ → Option ℕ → Type 0
IsOrWasNoted at old new = (new ≡ old) ⊎ (new ≡ noted old at)

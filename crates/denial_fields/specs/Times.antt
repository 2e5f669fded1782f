-- Times of signatures (RFC 4034, 3.1.5).
use Rattle.std.specs.Prelude.{◌≡◌, ◌⊎◌, ℕ, ◌+◌, ◌%◌, ◌<◌, ◌≤◌}

-- The time that seconds modulo 2^32 stand for, seen from a reference: from 2^31 seconds before it up to less than 2^31
-- behind it; or the seconds as they are, where that time would lie before 1970.
pub record IsTimeNear (seconds reference time : ℕ) : Type 0 where
  pub same : time % 4294967296 ≡ seconds
  pub near : ((reference ≤ time + 2147483648) × (time < reference + 2147483648)) ⊎ ((time ≡ seconds) × (reference + 2147483648 ≤ time))

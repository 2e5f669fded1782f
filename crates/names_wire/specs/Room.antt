-- Room for octets that are appended.
use Rattle.std.proofs.Common.{◌≡◌, ℕ, List, length, ◌+◌, ◌<◌, ◌≤◌, ap, arith}

-- behind n octets that were appended, room is lacked only where it was lacked for these and the further ones
abbrev pub LeavesRoom : {B : Type 0} → (B → ℕ → Type 0) → B → B → ℕ → Type 0
LeavesRoom lacks_room old new n = (m : ℕ) → lacks_room new m → lacks_room old (n + m)

pub more_is_lacked : (capacity len m n : ℕ) → m ≤ n → capacity < len + m → capacity < len + n
more_is_lacked capacity len m n h k = omega arith

pub takes_none : (capacity n : ℕ) (old xs new : List ℕ) → new ≡ xs → length xs ≡ length old → capacity < length new + n → capacity < length old + n
takes_none capacity n old xs new e h k = omega (arith, ap length e)

-- Numbers in octets, read where they may not be there and where they are.
use Rattle.std.specs.Prelude.{◌≡◌, ℕ, ◌+◌, ◌<◌, List, length, Ok}
use Rattle.messages.specs.Message.{pair, quad, u16_at, u32_at}

-- where the octets are there, both readings give one number
pub record NumbersReadAlike : Type 0 where
  pub pairs : (m : List ℕ) (p : ℕ) → p + 1 < length m → u16_at m p ≡ Ok (pair m p)
  pub quads : (m : List ℕ) (p : ℕ) → p + 3 < length m → u32_at m p ≡ Ok (quad m p)

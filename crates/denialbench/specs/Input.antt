-- What a read adds to an input.
use Rattle.std.specs.Prelude.{◌≡◌, ℕ, List, ◌++◌, length, Option}
use Rattle.std.specs.Io.KnownBytes.{Consumes, IsAtEnd}

-- what was consumed stands behind what was there; where it was nothing, the reader is at its end
pub record ReadsOn (before after : Option (List ℕ)) (old new : List ℕ) (count : ℕ) : Type 0 where
  pub octets : List ℕ
  pub consumed : Consumes before after octets
  pub added : new ≡ old ++ octets
  pub size : length octets ≡ count
  pub at_end : count ≡ 0 → IsAtEnd after

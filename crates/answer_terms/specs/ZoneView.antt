-- How an accepted zone is seen.
use Rattle.std.specs.Prelude.{ℕ, List, Bool, ◌&&◌, ◌==◌}
use Rattle.definitions.specs.Name.{Name, same}
use Rattle.definitions.specs.ZoneChain.{Mode}
use Rattle.messages.specs.HandedRr.{HandedRr}

-- an accepted zone
pub record AcceptedZone : Type 0 where
  pub apex : Name
  pub mode : Mode
  pub limit : ℕ
  pub records : List HandedRr

-- a record is of a name, up to case, and a type
abbrev pub is_of : Name → ℕ → HandedRr → Bool
is_of name t r = same r.owner name && (r.rtype == t)

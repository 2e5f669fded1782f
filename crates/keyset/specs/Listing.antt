-- The first references of a call's list.
use Rattle.std.specs.Prelude.{◌≡◌, ◌<◌, ℕ, Bool, false, List, get_or, take}
use Rattle.std.specs.Borrow.{Bor}
use Rattle.std.specs.List.{list_any}
use Rattle.std.specs.Str.{bytes_eq}
use Rattle.keyset.specs.KeyState.{KeySetState, Reference, has_algorithm, listed}

pub record Listing : Type 0 where
  pub all : List Reference
  pub count : ℕ

-- the references that are listed
abbrev pub listed_by : Listing → List Reference
listed_by l = take l.count l.all

-- the hashed references are those of a list, in whatever order and however often they stand there
abbrev pub IsIndexOf : List Reference → List (Bor Reference) → Type 0
IsIndexOf qs ks = (q : Reference) → list_any (λ k. bytes_eq k.now q) ks ≡ listed qs q

-- for each number of an algorithm whether one of these keys has it
abbrev pub AreAlgorithmsOf : KeySetState → List Reference → List Bool → Type 0
AreAlgorithmsOf s qs found = (number : ℕ) → number < 256 → get_or found number false ≡ has_algorithm s qs number

-- Labels and octets in the case in which they are compared.
use Rattle.std.specs.Prelude.{◌≡◌, ℕ, ◌-◌, ◌≤◌, List, length, drop}
use Rattle.std.specs.Str.{str_to_ascii_lowercase}
use Rattle.names_wire.specs.Name.{Label}
use Rattle.names_labels.specs.declared.order.Case.{Case}
use Rattle.names_labels.specs.declared.order.Case.TheVariants.{Kept, Lowered}

-- a label as it is, or with ASCII letters lowered
abbrev pub in_case : Case → Label → Label
in_case Kept l = l
in_case Lowered l = str_to_ascii_lowercase l

-- this number of octets at the end of both are the same, up to ASCII case
abbrev pub SameEnds : List ℕ → List ℕ → ℕ → Type 0
SameEnds octets others count =
    (count ≤ length octets) × (count ≤ length others)
    × (str_to_ascii_lowercase (drop (length octets - count) octets) ≡ str_to_ascii_lowercase (drop (length others - count) others))

-- exactly this number of octets at the end of both are the same, up to ASCII case
pub record HaveTail (octets others : List ℕ) (count : ℕ) : Type 0 where
  pub same : SameEnds octets others count
  pub most : (more : ℕ) → SameEnds octets others more → more ≤ count

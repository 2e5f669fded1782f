-- Labels that were walked over (RFC 1035, 3.1).
use Rattle.std.specs.Prelude.{◌≡◌, ℕ, ◌+◌, ◌<◌, ◌≤◌, List, ◌++◌, length, Option, Some, None}
use Rattle.names_wire.specs.Name.{Name, Label}
use Rattle.names_labels.specs.Flat.{labels_in, IsRun, SplitsLabel}
use Rattle.names_wire.specs.Label.{octets_of}
use Rattle.names_wire.specs.declared.label.Label.{Label as LabelOf}

-- octets and what stands before them
abbrev pub Behind : List ℕ → List ℕ → Type 0
Behind whole end = (front : List ℕ) × (whole ≡ front ++ end)

-- a label of a row, and what is left behind it
pub record Walked (run left : List ℕ) (l : Label) : Type 0 where
  pub before : Name
  pub from : List ℕ
  pub labels : labels_in run ≡ before ++ labels_in from
  pub here : Behind run from
  pub row : IsRun from
  pub splits : SplitsLabel from l left

-- the label that was walked over last, if one was, and what is left
abbrev pub HasWalked : List ℕ → List ℕ → Option LabelOf → Type 0
HasWalked run left None = left ≡ run
HasWalked run left (Some l) = Walked run left (octets_of l)

-- the octets from a label on
abbrev pub reach : List ℕ → LabelOf → ℕ
reach left l = length left + (length (octets_of l) + 1)

-- a label begins in front of a number of octets at the end
abbrev pub BeginsBefore : ℕ → List ℕ → Option LabelOf → Type 0
BeginsBefore tail left None = Unit {0}
BeginsBefore tail left (Some l) = tail < reach left l

-- exactly the labels that begin in front of a number of octets at the end were walked over
pub record WalksTo (run : List ℕ) (tail : ℕ) (last : Option LabelOf) (left : List ℕ) : Type 0 where
  pub walked : HasWalked run left last
  pub begins : BeginsBefore tail left last
  pub within : length left ≤ tail

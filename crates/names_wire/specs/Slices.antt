-- The labels at a place of some octets, from one to the next and through pointers (RFC 1035, 4.1.4).
use Rattle.std.specs.Prelude.{◌≡◌, ◌↔◌, ℕ, zero, suc, ◌+◌, List, [], ◌∷◌, ◌++◌, length, drop, Option, Some, None, Ok, Err, nat_lt, if◌then◌else◌}
use Rattle.definitions.specs.Name.{Name}
use Rattle.definitions.specs.Reading.{Reads}
use Rattle.names_wire.specs.Label.{split}
use Rattle.names_wire.specs.declared.label.SplitLabelError.{SplitLabelError}
use Rattle.names_wire.specs.declared.label.SplitLabelError.TheVariants.{Pointer, BadType, ShortInput}

-- labels in a row, and the place that a pointer behind them leads to
pub record Row : Type 0 where
  pub labels : List (List ℕ)
  pub onward : Option ℕ

abbrev pub stop : Row
stop = record { labels = []; onward = None }

abbrev pub with_label : List ℕ → Row → Row
with_label l r = record { labels = l ∷ r.labels; onward = r.onward }

-- The place that a pointer leads to, if it is before its own. The numbers are how many octets there are, and how
-- many from the pointer on.
abbrev pub leads_to : ℕ → ℕ → SplitLabelError → Option ℕ
leads_to all here (Pointer to) = if nat_lt (to + here) all then Some to else None
leads_to all here (BadType t) = None
leads_to all here ShortInput = None

-- the place that a pointer at a place leads to
abbrev pub pointer_from : List ℕ → ℕ → Option ℕ
pointer_from m p = elim (split (drop p m)) [ Ok found ↦ None | Err e ↦ leads_to (length m) (length (drop p m)) e ]

-- The labels in a row behind a number of octets of a label: up to the root's, to a pointer or to what is no label.
abbrev pub row_behind : ℕ → ℕ → List ℕ → Row
row_behind all k [] = stop
row_behind all (suc k) (b ∷ rest) = row_behind all k rest
row_behind all zero (b ∷ rest) = elim (split (b ∷ rest)) [
  | Ok found ↦ elim found.0 [ [] ↦ with_label [] stop | l ∷ ls ↦ with_label (l ∷ ls) (row_behind all (length (l ∷ ls)) rest) ]
  | Err e ↦ record { labels = []; onward = leads_to all (length (b ∷ rest)) e }
]

abbrev pub row_at : List ℕ → ℕ → Row
row_at m p = row_behind (length m) 0 (drop p m)

-- the labels from a place on, through a limited number of pointers
abbrev pub labels_along : ℕ → List ℕ → ℕ → List (List ℕ)
labels_along zero m p = (row_at m p).labels
labels_along (suc k) m p = (row_at m p).labels ++ (elim (row_at m p).onward [ None ↦ [] | Some q ↦ labels_along k m q ])

-- From a place on there are the labels of a name, the root's last, exactly where the name stands there.
abbrev pub AlongNames : Type 0
AlongNames = (m : List ℕ) (p k : ℕ) (n : Name) → (labels_along k m p ≡ n ++ [] ∷ []) ↔ ((e : ℕ) × Reads m p k n e)

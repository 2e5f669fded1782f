-- A name under construction: finished labels, and the octets of a label that is open.
use Rattle.std.specs.Prelude.{◌≡◌, ℕ, suc, ◌+◌, ◌<◌, ◌≤◌, List, [], ◌∷◌, ◌++◌, length, take, drop, slice_set, Option, Some, None}
use Rattle.std.specs.List.{AllByRecursion}
use Rattle.definitions.specs.Name.{Name, Label, IsLabel}
use Rattle.names_labels.specs.Flat.{spelled, labels_in}

-- The finished labels, and the open one, which is empty where none is open.
pub record Building : Type 0 where
  pub done : Name
  pub open_label : Label

-- no labels, and none open
abbrev pub nothing : Building
nothing = record { done = []; open_label = [] }

-- an open label stands behind an octet that will hold its length
abbrev pub open_octets : Label → List ℕ
open_octets [] = []
open_octets (o ∷ os) = 0 ∷ o ∷ os

abbrev pub octets_of_building : Building → List ℕ
octets_of_building b = spelled b.done ++ open_octets b.open_label

abbrev pub labels_with : Name → Label → Name
labels_with ls [] = ls
labels_with ls (o ∷ os) = ls ++ (o ∷ os) ∷ []

-- the labels, the open one ended
abbrev pub all_labels : Building → Name
all_labels b = labels_with b.done b.open_label

-- what a builder holds, with the open label ended
abbrev pub ended : Building → Building
ended b = record { done = all_labels b; open_label = [] }

-- what a builder holds, with octets added to the open label, or to one that they open
abbrev pub with_octets : Building → List ℕ → Building
with_octets b os = record { done = b.done; open_label = b.open_label ++ os }

-- what a builder holds, with labels behind the ended one
abbrev pub with_labels : Building → Name → Building
with_labels b ls = record { done = all_labels b ++ ls; open_label = [] }

-- what a builder holds is longer than any relative name (RFC 1035, 2.3.4)
abbrev pub IsOver : Building → Type 0
IsOver b = 254 < length (octets_of_building b)

-- octets that would make the open label too long, and octets that would make the name too long
abbrev pub IsLongLabel : Building → List ℕ → Type 0
IsLongLabel b os = 63 < length b.open_label + length os

abbrev pub IsLongName : Building → List ℕ → Type 0
IsLongName b os = (length b.open_label + length os ≤ 63) × IsOver (with_octets b os)

-- the place of the open label's length
abbrev pub head_of : Label → ℕ → Option ℕ
head_of [] place = None
head_of (o ∷ os) place = Some place

-- the length of an open label written at its place
abbrev pub closed : List ℕ → Option ℕ → ℕ → List ℕ
closed bs None len = bs
closed bs (Some place) len = slice_set bs place len

-- what a buffer and the place of an open label's length hold
abbrev pub building : List ℕ → Option ℕ → Building
building bs None = record { done = labels_in bs; open_label = [] }
building bs (Some head) = record { done = labels_in (take head bs); open_label = drop (suc head) bs }

-- the limits of labels and of a relative name (RFC 1035, 2.3.4)
pub record IsShort (b : Building) : Type 0 where
  pub labels : AllByRecursion IsLabel b.done
  pub open_label : length b.open_label ≤ 63
  pub name : length (octets_of_building b) ≤ 254

-- A builder held this before more was added: a number of octets in front, with a label open at a place or none.
pub record IsFront (before : Building) (len : ℕ) (head : Option ℕ) (now : Building) : Type 0 where
  pub octets : closed (take len (octets_of_building now)) head 0 ≡ octets_of_building before
  pub place : head ≡ head_of before.open_label (length (spelled before.done))
  pub short : IsShort before

-- the buffer holds what is described
pub record Holds (bs : List ℕ) (head : Option ℕ) (b : Building) : Type 0 where
  pub octets : bs ≡ octets_of_building b
  pub place : head ≡ head_of b.open_label (length (spelled b.done))
  pub short : IsShort b

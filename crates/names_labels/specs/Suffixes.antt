-- A name and its ancestors.
use Rattle.std.specs.Prelude.{ℕ, ◌<◌, List, [], ◌∷◌, length}
use Rattle.names_wire.specs.Name.{Name}
use Rattle.names_labels.specs.Flat.{name_in, IsFlat}

-- the name, its parent and so on to the root
abbrev pub suffixes : Name → List Name
suffixes [] = [] ∷ []
suffixes (l ∷ n) = (l ∷ n) ∷ suffixes n

-- the suffixes of the name in wire form, or none behind the root's
abbrev pub names_left : List ℕ → List Name
names_left [] = []
names_left (b ∷ bs) = suffixes (name_in (b ∷ bs))

abbrev pub IsLeft : List ℕ → Type 0
IsLeft bs = 0 < length bs → IsFlat bs

-- Labels in a row of octets, each behind its length (RFC 1035, 3.1).
use Rattle.std.specs.Prelude.{◌≡◌, ℕ, zero, suc, ◌-◌, ◌≤◌, List, [], ◌∷◌, ◌++◌, length, take, drop}
use Rattle.std.specs.List.{flat_map, AllByRecursion}
use Rattle.names_wire.specs.Name.{Name, Label, wire, IsName}

-- The octets of labels in a row. With the root's empty label last they are the wire form of a name.
abbrev pub spelled : Name → List ℕ
spelled ls = flat_map (λ l. length l ∷ l) ls

-- the labels that the octets spell, up to a greatest number
abbrev pub labels_up_to : ℕ → List ℕ → Name
labels_up_to zero bs = []
labels_up_to (suc k) [] = []
labels_up_to (suc k) (b ∷ bs) = take b bs ∷ labels_up_to k (drop b bs)

-- the labels that the octets spell
unfoldable pub labels_in : List ℕ → Name
labels_in bs = labels_up_to (length bs) bs

-- the octets are labels in a row
pub record IsRun (bs : List ℕ) : Type 0 where
  pub whole : bs ≡ spelled (labels_in bs)
  pub short : AllByRecursion (λ l. length l ≤ 63) (labels_in bs)

-- the octets are these labels in a row
pub record IsRunOf (bs : List ℕ) (ls : Name) : Type 0 where
  pub run : IsRun bs
  pub labels : labels_in bs ≡ ls

-- a run is a label and the run behind it
pub record SplitsLabel (run : List ℕ) (label : Label) (rest : List ℕ) : Type 0 where
  pub first : labels_in run ≡ label ∷ labels_in rest
  pub behind : IsRun rest

-- a run is a run and the label behind it
pub record SplitsLast (run front : List ℕ) (label : Label) : Type 0 where
  pub last : labels_in run ≡ labels_in front ++ label ∷ []
  pub in_front : IsRun front

-- a run is two runs
pub record SplitsRun (run front back : List ℕ) : Type 0 where
  pub labels : labels_in run ≡ labels_in front ++ labels_in back
  pub in_front : IsRun front
  pub behind : IsRun back

-- the name that the octets spell, without the root's label
abbrev pub name_in : List ℕ → Name
name_in bs = take (length (labels_in bs) - 1) (labels_in bs)

-- the octets are the wire form of the name
pub record SpellsName (bs : List ℕ) (n : Name) : Type 0 where
  pub octets : wire n ≡ bs
  pub name : IsName n

-- the octets are the wire form of a name
abbrev pub IsFlat : List ℕ → Type 0
IsFlat bs = SpellsName bs (name_in bs)

-- the octets are the labels of the relative name
pub record SpellsRelative (bs : List ℕ) (n : Name) : Type 0 where
  pub octets : spelled n ≡ bs
  pub name : IsName n

-- the octets are the labels of a relative name
abbrev pub IsFlatRelative : List ℕ → Type 0
IsFlatRelative bs = SpellsRelative bs (labels_in bs)

-- a label of the name begins at the place, or its last one ends there
abbrev pub StartsLabel : Name → ℕ → Type 0
StartsLabel n place = (k : ℕ) × (k ≤ length n) × (place ≡ length (spelled (take k n)))

-- Names that stand in a message, found through as many pointers as may be followed (RFC 1035, 4.1.4).
use Rattle.std.specs.Prelude.{◌≡◌, ℕ, ◌+◌, ◌<◌, ◌≤◌, Bool, true, false, List, [], ◌∷◌, ◌++◌, Ok, Err}
use Rattle.definitions.specs.Name.{Name, wire_len}
use Rattle.definitions.specs.Limits.{pointer_limit}
use Rattle.definitions.specs.Reading.{Reads, name_at}

-- a name of at most 255 octets stands at the place, and ends at another
pub record Stands (m : List ℕ) (p : ℕ) (n : Name) (e : ℕ) : Type 0 where
  pub reads : Reads m p pointer_limit n e
  pub short : wire_len n ≤ 255

-- whether a name stands at a place
unfoldable pub stands_at : List ℕ → ℕ → Bool
stands_at m p = elim (name_at pointer_limit m p) [ Ok r ↦ true | Err f ↦ false ]

-- the labels of the name at a place, without the root's
unfoldable pub name_from : List ℕ → ℕ → Name
name_from m p = elim (name_at pointer_limit m p) [ Ok r ↦ r.0 | Err f ↦ [] ]

-- A name stands at a place without a pointer and ends at another: its wire form is the octets between the two.
abbrev pub InRow : List ℕ → ℕ → ℕ → Type 0
InRow m p e = name_at 0 m p ≡ Ok (name_from m p, e)

-- the name at a place stands in a row of this number of octets; 0 says nothing
abbrev pub HasRow : List ℕ → ℕ → ℕ → Type 0
HasRow m p row = 0 < row → InRow m p (p + row)

-- where the name at a place stands in a row, the name at another place does too, up to the same end
abbrev pub KeepsRow : List ℕ → ℕ → ℕ → Type 0
KeepsRow m p q = (e : ℕ) → InRow m p e → InRow m q e

-- the labels of the name at a place, the root's last
abbrev pub labels_from : List ℕ → ℕ → Name
labels_from m p = name_from m p ++ [] ∷ []

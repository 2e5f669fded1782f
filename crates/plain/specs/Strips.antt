-- Octets that begin with others, or not.
use Rattle.std.specs.Prelude.{◌≡◌, ℕ, List, ◌++◌, Result, Ok, Err}
use Rattle.std.specs.Ordering.{nat_cmp}
use Rattle.std.specs.Cmp.Lexicographic.{slice_cmp}
use Rattle.std.specs.declared.cmp.Ordering.{Ordering}

-- The octets begin with these, and the rest is behind; or how these compare with them, whatever is behind these.
abbrev pub Strips : {A : Type 0} → List ℕ → List ℕ → (A → List ℕ) → Result A Ordering → Type 0
Strips front octets rest (Ok r) = octets ≡ front ++ rest r
Strips front octets rest (Err o) = (behind : List ℕ) → slice_cmp nat_cmp (front ++ behind) octets ≡ o

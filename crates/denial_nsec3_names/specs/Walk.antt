-- The names of a chain owner by owner (RFC 5155, 7.1).
use Rattle.std.specs.Prelude.{ℕ, zero, suc, List, [], ◌∷◌, ◌++◌, drop, if◌then◌else◌}
use Rattle.definitions.specs.Name.{Name, at_or_above}

-- how many names an owner adds behind the one before it: itself and its ancestors, without those that the one before is
-- or has as ancestors too
abbrev pub fresh_count : Name → Name → ℕ
fresh_count p [] = 0
fresh_count p (l ∷ o) = if at_or_above (l ∷ o) p then 0 else suc (fresh_count p o)

-- an owner without a number of its first labels
pub record Spot (G : Type 0) : Type 0 where
  pub owner : G
  pub skipped : ℕ

abbrev pub spot : {G : Type 0} → G → ℕ → Spot G
spot g n = record { owner = g; skipped = n }

abbrev pub spot_name : {G : Type 0} → (G → Name) → Spot G → Name
spot_name name s = drop s.skipped (name s.owner)

-- an owner and a number of its ancestors, the shortest first
abbrev pub last_spots : {G : Type 0} → ℕ → G → List (Spot G)
last_spots zero g = []
last_spots (suc n) g = spot g n ∷ last_spots n g

abbrev pub spots_behind : {G : Type 0} → (G → Name) → G → List G → List (Spot G)
spots_behind name p [] = []
spots_behind name p (g ∷ gs) = last_spots (fresh_count (name p) (name g)) g ++ spots_behind name g gs

-- the names of a chain whose owners begin with the apex
abbrev pub spots_of : {G : Type 0} → (G → Name) → List G → List (Spot G)
spots_of name [] = []
spots_of name (g ∷ gs) = spot g 0 ∷ spots_behind name g gs

-- Where groups of neighbours that are alike begin.
use Rattle.std.specs.Prelude.{◌≡◌, ℕ, ◌+◌, ◌-◌, ◌≤◌, Bool, false, List, [], ◌∷◌, Option, length, if◌then◌else◌}
use Rattle.std.specs.declared.option.Option.TheVariants.{None, Some}

-- whether an item is like the one before it; the first has none before it
abbrev pub follows : {A : Type 0} → (A → A → Bool) → Option A → A → Bool
follows alike None y = false
follows alike (Some x) y = alike x y

-- the places of items that aren't like the one before them; the first stands behind an item or none, at a place
abbrev pub starts_behind : {A : Type 0} → (A → A → Bool) → Option A → ℕ → List A → List ℕ
starts_behind alike before n [] = []
starts_behind alike before n (y ∷ ys) = if follows alike before y then starts_behind alike (Some y) (n + 1) ys else n ∷ starts_behind alike (Some y) (n + 1) ys

-- the places at which a new group begins, ascending
abbrev pub starts_in : {A : Type 0} → (A → A → Bool) → List A → List ℕ
starts_in alike xs = starts_behind alike None 0 xs

-- the places at which a group begins behind the first one, of items from a place on
abbrev pub later_starts : {A : Type 0} → (A → A → Bool) → ℕ → List A → List ℕ
later_starts alike n [] = []
later_starts alike n (x ∷ xs) = starts_behind alike (Some x) (n + 1) xs

-- places, and how many items there were, are those of the last of these items
abbrev pub AreStartsBehind : {A : Type 0} → (A → A → Bool) → List ℕ → ℕ → List A → Type 0
AreStartsBehind alike places count xs = (length xs ≤ count) × (places ≡ later_starts alike (count - length xs) xs)

-- Going from label to label.
use Rattle.std.specs.Prelude.{◌≡◌, ◌⊎◌, ◌<◌, ℕ, true, List, [], ◌∷◌, length, drop}
use Rattle.definitions.specs.Name.{Label}
use Rattle.names_parsed.specs.Standing.{stands_at, name_from, labels_from, KeepsRow}

-- The label at a place, and the place of the name behind it; behind the root's label it is the root again.
pub record StepsTo (m : List ℕ) (p : ℕ) (l : Label) (next : ℕ) : Type 0 where
  pub stands : stands_at m next ≡ true
  pub labels : ((l ≡ []) × (name_from m p ≡ []) × (name_from m next ≡ [])) ⊎ ((0 < length l) × (name_from m p ≡ l ∷ name_from m next))
  pub row : KeepsRow m p next

-- From the place `at` in the message the label at an index of the name at `start` is reached: at its own place, or at that of a
-- pointer to it. Behind the last label any name will do.
pub record Reaches (m : List ℕ) (start at index : ℕ) : Type 0 where
  pub stands : stands_at m at ≡ true
  pub labels : index < length (labels_from m start) → labels_from m at ≡ drop index (labels_from m start)

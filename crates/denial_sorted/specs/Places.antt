-- Where an item stands among ascending ones, or belongs.
use Rattle.std.specs.Prelude.{◌≡◌, ℕ, ◌≤◌, Bool, true, false, List, length, Result}
use Rattle.std.specs.declared.cmp.Ordering.{Ordering}
use Rattle.std.specs.declared.result.Result.TheVariants.{Ok, Err}
use Rattle.std.specs.List.{insert, list_any}
use Rattle.std.specs.Ordering.{eq_by_cmp}
use Rattle.definitions.specs.Sorting.{put_by}

-- whether an item equal to this one is among some
abbrev pub holds_equal : {A : Type 0} → (A → A → Ordering) → A → List A → Bool
holds_equal cmp a xs = list_any (eq_by_cmp cmp a) xs

-- an equal item is there; or none is, and the item belongs behind those before the place
abbrev pub Places : {A : Type 0} → (A → A → Ordering) → A → List A → Result ℕ ℕ → Type 0
Places cmp a xs (Ok _) = holds_equal cmp a xs ≡ true
Places cmp a xs (Err i) = (holds_equal cmp a xs ≡ false) × (i ≤ length xs) × (insert xs i a ≡ put_by cmp a xs)

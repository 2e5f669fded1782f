-- What the places of groups are once an item has come in.
use Rattle.std.specs.Prelude.{◌≡◌, ℕ, zero, suc, ◌+◌, Bool, false, List, ◌∷◌, ◌++◌, Option, map, drop, if◌then◌else◌}
use Rattle.std.specs.declared.option.Option.TheVariants.{None, Some}
use Rattle.std.specs.List.{slice_get}
use Rattle.denial_sorted.specs.declared.starts.Neighbour.{Neighbour}
use Rattle.denial_sorted.specs.declared.starts.Neighbour.TheVariants.{Before, Behind, Neither}
use Rattle.denial_rrsets.specs.Starts.{follows}

-- the item before a place, if there is one
abbrev pub before_at : {A : Type 0} → List A → ℕ → Option A
before_at xs zero = None
before_at xs (suc k) = slice_get xs k

-- whether an item is like the one behind it
abbrev pub leads : {A : Type 0} → (A → A → Bool) → A → Option A → Bool
leads alike a None = false
leads alike a (Some b) = alike a b

-- whether an item, if there is one, is like another, if there is one
abbrev pub are_neighbours : {A : Type 0} → (A → A → Bool) → Option A → Option A → Bool
are_neighbours alike None b = false
are_neighbours alike (Some a) b = leads alike a b

-- the neighbour that an item belongs with when it is inserted at a place
abbrev pub joins : {A : Type 0} → (A → A → Bool) → List A → ℕ → A → Neighbour
joins alike xs n a = if follows alike (before_at xs n) a then Before else if leads alike a (slice_get xs n) then Behind else Neither

-- the places before the item and those behind it: these move by one, and a group that the item begins is at its place
abbrev pub moved : Neighbour → ℕ → List ℕ → List ℕ → List ℕ
moved Before n front back = front ++ map (λ s. s + 1) back
moved Behind n front back = front ++ n ∷ map (λ s. s + 1) (drop 1 back)
moved Neither n front back = front ++ n ∷ map (λ s. s + 1) back

-- an item that comes in at a place and is like neither neighbour parts them
abbrev pub IsApartAt : {A : Type 0} → (A → A → Bool) → List A → ℕ → A → Type 0
IsApartAt alike xs n a = joins alike xs n a ≡ Neither → are_neighbours alike (before_at xs n) (slice_get xs n) ≡ false

-- The names between which a name stands in canonical order.
use Rattle.std.specs.Prelude.{◌≡◌, ℕ, ◌<◌, ◌≤◌, Bool, false, ◌||◌, List, [], ◌∷◌, Option, Some, None, length, slice_index_or}
use Rattle.std.specs.Borrow.{Bor}
use Rattle.std.specs.List.{AllByRecursion}
use Rattle.std.specs.declared.cmp.Ordering.TheVariants.{Greater}
use Rattle.definitions.specs.Name.{Name, at_or_above, name_cmp, same, strictly_above}
use Rattle.answer_zone_records.specs.declared.near.Neighbours.{Neighbours}

-- in canonical order, some perhaps alike
abbrev pub AreRising : {A : Type 0} → (A → Name) → List A → Type 0
AreRising name [] = Unit {0}
AreRising name (x ∷ xs) = AllByRecursion (λ y. name_cmp (name x) (name y) ≡ Greater → ⊥) xs × AreRising name xs

-- the name of the item at a place, if there is one
abbrev pub IsNameAt : {A : Type 0} → (A → Name) → List A → ℕ → Option (Bor Name) → Type 0
IsNameAt name xs k None = length xs ≤ k
IsNameAt {A} name xs k (Some n) = (k < length xs) × ((x : A) × (x ≡ slice_index_or xs k x) × (n.now ≡ name x))

-- a name, if there is one, is at or below another
abbrev pub is_below : Option (Bor Name) → Name → Bool
is_below None a = false
is_below (Some n) a = at_or_above a n.now

-- a name, if there is one, is below another
abbrev pub is_strictly_below : Option (Bor Name) → Name → Bool
is_strictly_below None a = false
is_strictly_below (Some n) a = strictly_above a n.now

-- one of the neighbours is at or below a name
abbrev pub shows : Neighbours → Name → Bool
shows n a = is_below n.before a || is_below n.from a

-- the name itself is among the others
abbrev pub owns : Neighbours → Name → Bool
owns n q = elim n.from [ None ↦ false | Some m ↦ same m.now q ]

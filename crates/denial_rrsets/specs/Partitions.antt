-- Groups that are all of a list.
use Rattle.std.specs.Prelude.{◌≡◌, Bool, false, List, [], ◌∷◌}
use Rattle.std.specs.List.{AllByRecursion, flat_map}
use Rattle.denial_rrsets.specs.Groups.{IsGroup}

-- no item of one is like an item of the other
abbrev pub AreUnlike : {A : Type 0} → (A → A → Bool) → List A → List A → Type 0
AreUnlike alike g h = AllByRecursion (λ x. AllByRecursion (λ y. alike x y ≡ false) h) g

-- no item of one group is like an item of another
abbrev pub AreApart : {A : Type 0} → (A → A → Bool) → List (List A) → Type 0
AreApart alike [] = Unit {0}
AreApart alike (g ∷ gs) = AllByRecursion (AreUnlike alike g) gs × AreApart alike gs

-- joined the groups are the list; the items of each are alike, and like no item of another
abbrev pub IsPartition : {A : Type 0} → (A → A → Bool) → List A → List (List A) → Type 0
IsPartition alike xs gs = (flat_map (λ g. g) gs ≡ xs) × AllByRecursion (IsGroup alike) gs × AreApart alike gs

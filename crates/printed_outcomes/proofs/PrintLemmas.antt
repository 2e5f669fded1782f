-- Lists printed through a view of their items.
use Rattle.std.proofs.Common.{◌≡◌, ℕ, List, [], ◌∷◌, ◌++◌, map, refl, ap, codes}
use Rattle.std.specs.List.{flat_map}
use Rattle.printed_outcomes.specs.Printed.{list_text}

flat_map-map : {X Y : Type 0} (text : Y → List ℕ) (view : X → Y) (xs : List X) → flat_map text (map view xs) ≡ flat_map (λ x. text (view x)) xs
flat_map-map text view [] = refl
flat_map-map text view (x ∷ xs) = ap (λ l. text (view x) ++ l) (flat_map-map text view xs)

pub list_text-map : {X Y : Type 0} (text : Y → List ℕ) (view : X → Y) (xs : List X) → list_text text (map view xs) ≡ list_text (λ x. text (view x)) xs
list_text-map text view [] = refl
list_text-map text view (x ∷ xs) = ap (λ l. text (view x) ++ l) (flat_map-map (λ y. codes "," ++ text y) view xs)

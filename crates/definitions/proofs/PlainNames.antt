-- Names at and above others, case by case.
use Rattle.std.proofs.Common.{◌≡◌, true, ◌||◌, [], ◌∷◌, ap}
use Rattle.definitions.specs.Name.{Name, same, at_or_above}

-- a name is at or above one that is the same
pub above_same : (n m : Name) → same n m ≡ true → at_or_above n m ≡ true
above_same n [] h = h
above_same n (l ∷ m) h = ap (λ b. b || at_or_above n m) h

-- What code reads as octets.
use Rattle.std.proofs.Common.{◌≡◌, ℕ, zero, suc, ◌<◌, List, [], ◌∷◌, subst}
use Rattle.std.specs.Prelude.{slice_index}
use Rattle.std.specs.List.{AllByRecursion}

-- a slice of octets, whatever it is equal to
pub are_octets : (s xs : List ℕ) → s ≡ xs → ((k : ℕ) → slice_index s k < 256) → AllByRecursion (λ x. x < 256) xs
are_octets s xs e h = subst (AllByRecursion (λ x. x < 256)) e (each s h)
  where
    each : (ys : List ℕ) → ((k : ℕ) → slice_index ys k < 256) → AllByRecursion (λ x. x < 256) ys
    each [] f = tt
    each (y ∷ ys) f = (f zero, each ys (λ k. f (suc k)))

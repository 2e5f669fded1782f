-- Records as they were written one after another.
use Rattle.std.proofs.Common.{◌≡◌, ℕ, List, ◌++◌, length, take, map, ap, ◌∙◌, sym}
use Rattle.std.specs.List.{flat_map}
use Rattle.std.proofs.Math.Seq.{take-length}
use Rattle.std.proofs.lemmas.List.Folds.{flat_map-map}
use Rattle.messages.specs.Written.{Written, record_octets}

-- all records were written
pub records_written : {X : Type 0} (f : X → Written) (xs : List X) (i : ℕ) (old new : List ℕ) → new ≡ old ++ flat_map (λ v. record_octets (f v)) (take i xs) → i ≡ length xs → new ≡ old ++ flat_map record_octets (map f xs)
records_written f xs i old new e n =
    e ∙ ap (λ ys. old ++ flat_map (λ v. record_octets (f v)) ys) (ap (λ k. take k xs) n ∙ take-length xs)
    ∙ ap (λ b. old ++ b) (sym (flat_map-map record_octets f xs))

-- What stands in for the hash of a name in lower case.
use Rattle.std.specs.Prelude.{ℕ, List, [], ◌∷◌, ◌++◌}
use Rattle.std.specs.List.{flat_map}

abbrev pub spelling : List (List ℕ) → List ℕ
spelling name = flat_map (λ label. label ++ 0 ∷ []) name

-- Labels as text with a dot behind each (RFC 1035, 5.1).
use Rattle.std.specs.Prelude.{ℕ, List, [], ◌∷◌, ◌++◌}
use Rattle.std.specs.List.{flat_map}
use Rattle.names_wire.specs.Name.{Name}
use Rattle.names_wire.specs.Text.{text_of_label}

abbrev pub dotted : Name → List ℕ
dotted n = flat_map (λ l. text_of_label l ++ 46 ∷ []) n

-- Types as text (RFC 4034, 4.2).
use Rattle.std.specs.Prelude.{ℕ, List, [], ◌∷◌, ◌++◌}
use Rattle.numbers.specs.Types.{type_text}

-- the text of types, with a blank between each two
abbrev pub types_text : List ℕ → List ℕ
types_text [] = []
types_text (t ∷ []) = type_text t
types_text (t ∷ u ∷ ts) = type_text t ++ 32 ∷ types_text (u ∷ ts)

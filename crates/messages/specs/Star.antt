-- Words on names that the code's names share.
use Rattle.std.specs.Prelude.{Bool, false, [], ◌∷◌}
use Rattle.std.specs.Str.{bytes_eq}
use Rattle.definitions.specs.Name.{Name}

-- the first label is exactly the star (RFC 4592, 2.1.1)
abbrev pub begins_with_star : Name → Bool
begins_with_star [] = false
begins_with_star (l ∷ ls) = bytes_eq l (42 ∷ [])

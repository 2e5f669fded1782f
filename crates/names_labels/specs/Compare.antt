-- Names compared label by label.
use Rattle.std.specs.Prelude.{Bool, true, false, ◌&&◌, [], ◌∷◌}
use Rattle.std.specs.Str.{bytes_eq, str_to_ascii_lowercase}
use Rattle.names_wire.specs.Name.{Name}

-- the labels of a name begin with those of another, up to ASCII case
abbrev pub begins_with : Name → Name → Bool
begins_with n [] = true
begins_with [] (l ∷ m) = false
begins_with (k ∷ n) (l ∷ m) = bytes_eq (str_to_ascii_lowercase k) (str_to_ascii_lowercase l) && begins_with n m

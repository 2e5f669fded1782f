-- How the bound keys of the code are seen.
use Rattle.std.specs.Prelude.{List, map, String, string_bytes}
use Rattle.keyset.specs.KeyState.{Reference}

-- a map from texts, by the octets of its keys
abbrev pub by_text : {A X : Type 0} → List (String A × X) → List (Reference × X)
by_text es = map (λ e. (string_bytes e.0, e.1)) es

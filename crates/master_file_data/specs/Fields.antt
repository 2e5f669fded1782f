-- Fields, and the names in them (RFC 1035, 5.1).
use Rattle.std.specs.Prelude.{◌≡◌, IsSomeAnd, MatchBool, ℕ, ◌&&◌, ◌==◌, not, Bool, false, List, [], ◌∷◌, ◌++◌, Option, Some, string_bytes}
use Rattle.std.specs.List.{flat_map}
use Rattle.std.specs.Str.{chars}
use Rattle.definitions.specs.Name.{Name}
use Rattle.definitions.specs.Text.{dotted_text_of_name, name_of_text}
use Rattle.master_file_data.specs.declared.field.Field.{Field}

abbrev pub text_of : Field → List ℕ
text_of f = string_bytes f.text

-- the texts of fields, one behind the other
abbrev pub joined : List Field → List ℕ
joined fs = flat_map text_of fs

-- an unescaped dot ends a text, the octets before it seen: whether the last is a backslash that escapes, or such a dot
abbrev pub ends_in_dot : Bool → Bool → List ℕ → Bool
ends_in_dot escaped ends [] = ends
ends_in_dot escaped ends (c ∷ cs) = ends_in_dot ((c == 92) && not escaped) ((c == 46) && not escaped) cs

abbrev pub is_absolute : List ℕ → Bool
is_absolute text = ends_in_dot false false text

-- the text of a relative name below an origin
abbrev pub below : List ℕ → Name → List ℕ
below text [] = text ++ 46 ∷ []
below text (l ∷ n) = text ++ (46 ∷ dotted_text_of_name (l ∷ n))

abbrev pub is_at : List ℕ → Bool
is_at [] = false
is_at (c ∷ []) = c == 64
is_at (c ∷ d ∷ cs) = false

-- the text is `@`, and the name the origin; or it stands below it
abbrev pub IsBelow : List ℕ → Name → Name → Type 0
IsBelow text n origin = MatchBool (is_at text) (n ≡ origin) (name_of_text (chars (below text origin)) ≡ Some n)

-- the field is a name: an absolute one, or one below the origin
abbrev pub IsNameOf : Option Name → Field → Name → Type 0
IsNameOf origin f n =
    MatchBool (is_absolute (text_of f)) (name_of_text (chars (text_of f)) ≡ Some n) (IsSomeAnd origin (IsBelow (text_of f) n))

-- Octets cut into lines.
use Rattle.std.specs.Prelude.{ℕ, ◌==◌, Bool, true, List, [], ◌∷◌, if◌then◌else◌}

-- an octet more at the front of the first line
abbrev pub lead : ℕ → List (List ℕ) → List (List ℕ)
lead c [] = (c ∷ []) ∷ []
lead c (l ∷ ls) = (c ∷ l) ∷ ls

-- cut at each line feed; after the last one nothing more stands
abbrev pub lines_of : List ℕ → List (List ℕ)
lines_of [] = []
lines_of (c ∷ cs) = if c == 10 then [] ∷ lines_of cs else lead c (lines_of cs)

-- an empty line or a comment
abbrev pub is_passed_over : List ℕ → Bool
is_passed_over [] = true
is_passed_over (c ∷ cs) = c == 35

-- Octets cut into the lines that end in a line feed, and the octets behind the last of these.
use Rattle.std.specs.Prelude.{ℕ, ◌==◌, Bool, List, [], ◌∷◌, if◌then◌else◌}
use Rattle.std.specs.List.{list_any}

abbrev pub has_feed : List ℕ → Bool
has_feed octets = list_any (λ c. c == 10) octets

-- an octet more at the front of the first line, where there is one
abbrev pub led : ℕ → List (List ℕ) → List (List ℕ)
led c [] = []
led c (l ∷ ls) = (c ∷ l) ∷ ls

-- the lines that end in a line feed, each without it
abbrev pub whole_lines : List ℕ → List (List ℕ)
whole_lines [] = []
whole_lines (c ∷ cs) = if c == 10 then [] ∷ whole_lines cs else led c (whole_lines cs)

-- the octets behind the last line feed: a line that is not finished, or nothing
abbrev pub unfinished : List ℕ → List ℕ
unfinished [] = []
unfinished (c ∷ cs) = if has_feed (c ∷ cs) then unfinished cs else c ∷ cs

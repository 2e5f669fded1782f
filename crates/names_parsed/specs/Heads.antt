-- Reading a name head by head.
use Rattle.std.specs.Prelude.{◌≡◌, ℕ, ◌+◌, ◌-◌, ◌<◌, ◌≤◌, List, [], ◌++◌, length, Result, Ok, Err, slice_range}
use Rattle.definitions.specs.Limits.{pointer_limit}
use Rattle.definitions.specs.Name.{Name}
use Rattle.definitions.specs.Reading.{ReadFault, Short, Malformed, most_heads, run_at, name_at}
use Rattle.definitions.proofs.ReadingLaws.{finish, in_front, beyond, labels_of}
use Rattle.names_parser.specs.declared.error.ParseError.{ParseError}
use Rattle.names_parser.specs.declared.error.ParseError.TheVariants.{ShortInput, Form}
use Rattle.names_parsed.specs.declared.head.Head.{Head}
use Rattle.names_parsed.specs.declared.head.Head.TheVariants.{Root, Label, Pointer}
use Rattle.names_parsed.specs.declared.head.Walked.{Walked}

-- why a name can't be read
abbrev pub fault_of : ParseError → ReadFault
fault_of ShortInput = Short
fault_of (Form f) = Malformed

-- the labels from a place on, and the place behind them, through a limited number of pointers and within a limited
-- number of octets
unfoldable pub rest_at : ℕ → ℕ → List ℕ → ℕ → Result (Name × ℕ) ReadFault
rest_at k room m p = finish k m (run_at most_heads k room m p)

-- the head of a label that fits, with an octet behind it, and what is read there
pub record LabelHead (k room : ℕ) (m : List ℕ) (p n : ℕ) : Type 0 where
  pub some : 0 < n
  pub fits : n + 2 ≤ room
  pub inside : p + 1 + n < length m
  pub onward : rest_at k room m p ≡ in_front (slice_range m (p + 1) (p + 1 + n)) (rest_at k (room - (n + 1)) m (p + 1 + n))

-- the head of a pointer to an earlier place, and what is read there
pub record PointerHead (k room : ℕ) (m : List ℕ) (p to : ℕ) : Type 0 where
  pub some : 0 < k
  pub before : to < p
  pub inside : p + 2 ≤ length m
  pub onward : rest_at k room m p ≡ beyond (p + 2) (labels_of (rest_at (k - 1) room m to))

-- what stands at a place, and what is read from there on
abbrev pub Begins : ℕ → ℕ → List ℕ → ℕ → Result Head ParseError → Type 0
Begins k room m p (Ok Root) = (p < length m) × (rest_at k room m p ≡ Ok ([], p + 1))
Begins k room m p (Ok (Label n)) = LabelHead k room m p n
Begins k room m p (Ok (Pointer to)) = PointerHead k room m p to
Begins k room m p (Err e) = rest_at k room m p ≡ Err (fault_of e)

-- How many labels the name at a place has, the root's included, how many octets where it stands without a pointer, and
-- where it ends; or why there is none.
abbrev pub Walks : List ℕ → ℕ → Result Walked ParseError → Type 0
Walks m p (Ok w) =
    (n : Name) × (name_at pointer_limit m p ≡ Ok (n, w.behind)) × (w.labels ≡ length n + 1)
    × (0 < w.row → name_at 0 m p ≡ Ok (n, p + w.row))
Walks m p (Err e) = name_at pointer_limit m p ≡ Err (fault_of e)

-- how many labels there are, those that are read and a number before them; or why none are read
abbrev pub CountsOn : Result Name ReadFault → ℕ → Result ℕ ParseError → Type 0
CountsOn found before (Ok labels) = (n : Name) × (found ≡ Ok n) × (labels ≡ before + length n)
CountsOn found before (Err e) = found ≡ Err (fault_of e)

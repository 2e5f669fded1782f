-- Sessions: the zone's line first, then those of its records, then events, and among these records that replace the zone's.
use Rattle.std.specs.Prelude.{ℕ, ◌+◌, ◌==◌, ◌&&◌, Bool, false, List, [], ◌∷◌, ◌++◌, length, codes, if◌then◌else◌, Option, Some, None, Result, Ok, Err}
use Rattle.std.specs.List.{slice_split}
use Rattle.std.specs.Str.{bytes_eq, is_utf8}
use Rattle.answer_events.specs.HandedRr.{HandedRr}
use Rattle.session_grammar.specs.Grammar.{◌>>=◌, ZoneLine, EventLine, Replace, zone_line, record_line, event_line, replacement_line}
use Rattle.session_grammar.specs.Lines.{is_passed_over, lines_of}

-- what lines say, and the records that are gathered for the next replacement
pub record Lines : Type 0 where
  pub zone : Option ZoneLine
  pub records : List HandedRr
  pub events : List EventLine
  pub gathered : List HandedRr

abbrev pub no_lines : Lines
no_lines = record { zone = None; records = []; events = []; gathered = [] }

-- the fields of a line, separated by one blank
abbrev pub fields_of : List ℕ → List (List ℕ)
fields_of line = slice_split (λ c. c == 32) line

abbrev pub is_record_line : List (List ℕ) → Bool
is_record_line [] = false
is_record_line (word ∷ fields) = bytes_eq word (codes "rr")

abbrev pub is_replacement_line : List (List ℕ) → Bool
is_replacement_line [] = false
is_replacement_line (word ∷ fields) = bytes_eq word (codes "replace")

-- a record is the zone's before all events, and behind one it is gathered
abbrev pub with_record : Lines → HandedRr → Lines
with_record s r = if length s.events == 0 then record s { records = s.records ++ r ∷ [] } else record s { gathered = s.gathered ++ r ∷ [] }

abbrev pub with_event : Lines → EventLine → Lines
with_event s e = record s { events = s.events ++ e ∷ [] }

-- a replacement takes what was gathered
abbrev pub with_replacement : Lines → ℕ → Lines
with_replacement s at = record s { events = s.events ++ (record { at = at; act = Replace s.gathered }) ∷ []; gathered = [] }

-- a line that counts, behind that of the zone
abbrev pub behind_zone : Lines → List (List ℕ) → Option Lines
behind_zone s fields =
    if is_record_line fields then (record_line fields >>= λ r. Some (with_record s r))
    else if is_replacement_line fields then (replacement_line fields >>= λ at. Some (with_replacement s at))
    else (event_line fields >>= λ e. Some (with_event s e))

-- a line that counts, behind others
abbrev pub with_fields : Lines → List (List ℕ) → Option Lines
with_fields s fields = elim s.zone [
  | None ↦ zone_line fields >>= λ z. Some (record s { zone = Some z })
  | Some z ↦ behind_zone s fields
]

-- a line behind others, if it can be read there
abbrev pub with_line : Lines → List ℕ → Option Lines
with_line s line = if is_passed_over line then Some s else if is_utf8 line then with_fields s (fields_of line) else None

-- a whole session
pub record Session : Type 0 where
  pub zone : ZoneLine
  pub records : List HandedRr
  pub events : List EventLine

-- The session of the lines that were read, counted, and of the rest, or the number of the first line that
-- can't be read. Without a zone that is the line behind the last. What is gathered at the end is passed over.
abbrev pub session_behind : ℕ → Lines → List (List ℕ) → Result Session ℕ
session_behind n s [] = elim s.zone [ None ↦ Err (n + 1) | Some z ↦ Ok (record { zone = z; records = s.records; events = s.events }) ]
session_behind n s (l ∷ ls) = elim (with_line s l) [ None ↦ Err (n + 1) | Some t ↦ session_behind (n + 1) t ls ]

-- the session that an input spells
abbrev pub session_of : List ℕ → Result Session ℕ
session_of input = session_behind 0 no_lines (lines_of input)

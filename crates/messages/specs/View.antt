-- What readings of a message give, as contracts see it.
use Rattle.std.specs.Prelude.{◌≡◌, ℕ, ◌+◌, List, [], Result, Ok, Err, IsOk}
use Rattle.definitions.specs.Name.{Name}
use Rattle.definitions.specs.Limits.{pointer_limit}
use Rattle.messages.specs.declared.error.MessageError.{MessageError}
use Rattle.names_parser.specs.declared.error.ParseError.{ParseError}
use Rattle.names_parsed.specs.Heads as heads
use Rattle.messages.specs.Message.{◌>>=◌, Asked, Spelled, asked_at, fault_of, one_question, owner_at, records_at, u16_at}

-- what a reading returned, seen by view, is what the definition reads
abbrev pub Gives : {X Y : Type 0} → (X → Y) → Result X MessageError → Result Y MessageError → Type 0
Gives view (Ok x) read = read ≡ Ok (view x)
Gives view (Err e) read = read ≡ Err e

-- a name and the place behind it
abbrev pub named : Name → ℕ → Name × ℕ
named n p = (n, p)

-- a record and the place behind it
abbrev pub placed : Spelled → ℕ → Spelled × ℕ
placed r p = (r, p)

-- the labels that stand at a place
abbrev pub name_read : List ℕ → ℕ → Name
name_read m p = elim (owner_at pointer_limit m p) [ Ok r ↦ r.0 | Err e ↦ [] ]

-- what stands before the records: what is asked, the place behind it, and how many records there are
abbrev pub head_at : ℕ → List ℕ → Result (Asked × ℕ × ℕ) MessageError
head_at k m = do
  questions ← u16_at m 4
  answers ← u16_at m 6
  authority ← u16_at m 8
  additional ← u16_at m 10
  only ← one_question questions
  q ← asked_at k m 12
  Ok (q.0, q.1, answers + authority + additional)

abbrev pub headed : Name → ℕ → ℕ → ℕ → ℕ → Asked × ℕ × ℕ
headed n t c p count = (record { name = n; rtype = t; class = c }, p, count)

-- a number of records from a place on
abbrev pub records_read : ℕ → List ℕ → ℕ → List Spelled
records_read n m p = elim (records_at n pointer_limit m p) [ Ok rs ↦ rs | Err e ↦ [] ]

-- a name reads at a place
abbrev pub NameReads : List ℕ → ℕ → Type 0
NameReads m p = IsOk (owner_at pointer_limit m p)

-- why a name of a message can't be read
abbrev pub message_error : ParseError → MessageError
message_error e = fault_of (heads.fault_of e)

-- Octets that are read from front to back.
use Rattle.std.specs.Prelude.{◌≡◌, ℕ, ◌+◌, ◌<◌, ◌≤◌, List, slice_range, Result, Ok, Err}
use Rattle.names_parser.specs.declared.error.ParseError.{ParseError}
use Rattle.names_parser.specs.declared.error.ParseError.TheVariants.{ShortInput}

-- The octets of the whole message, the place of the next one to be read, and the place behind the last that may be.
pub record Reader : Type 0 where
  pub octets : List ℕ
  pub place : ℕ
  pub end : ℕ

-- the reader at a later place
abbrev pub moved : Reader → ℕ → Reader
moved r n = record { octets = r.octets; place = r.place + n; end = r.end }

-- the next octets of a reader, of a given number
abbrev pub next_octets : Reader → ℕ → List ℕ
next_octets r n = slice_range r.octets r.place (r.place + n)

-- A given number of octets is taken, and they are a value's; or there are too few, and nothing changes.
abbrev pub Takes : {A : Type 0} → ℕ → (List ℕ → A → Type 0) → Reader → Reader → Result A ParseError → Type 0
Takes n spells old new (Ok value) = spells (next_octets old n) value × (new ≡ moved old n) × (old.place + n ≤ old.end)
Takes n spells old new (Err e) = (e ≡ ShortInput) × (new ≡ old) × (old.end < old.place + n)

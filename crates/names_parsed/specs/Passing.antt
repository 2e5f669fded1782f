-- What is passed over where a name is skipped (RFC 1035, 4.1.4).
use Rattle.std.specs.Prelude.{◌≡◌, ◌⊎◌, ℕ, ◌+◌, ◌-◌, ◌<◌, ◌≤◌, List, [], ◌∷◌, length, Some, slice_get, slice_range}
use Rattle.definitions.specs.Name.{Name, Label, wire_len}
use Rattle.definitions.specs.Reading.{ReadFault, Short, Malformed}
use Rattle.names_parser.specs.Reader.{Reader}
use Rattle.names_parser.specs.declared.error.ParseError.{ParseError}
use Rattle.names_parser.specs.declared.error.ParseError.TheVariants.{ShortInput}
use Rattle.names_parsed.specs.Heads.{fault_of}

-- Labels up to a root octet, or up to a pointer, wherever that leads; and the place behind.
pub data Passes (m : List ℕ) : ℕ → Name → ℕ → Type 0 where
  at_root : {p b : ℕ} → slice_get m p ≡ Some 0 → b ≡ p + 1 → Passes m p [] b
  at_pointer : {p high low b : ℕ} → slice_get m p ≡ Some high → 192 ≤ high → slice_get m (p + 1) ≡ Some low → b ≡ p + 2 → Passes m p [] b
  at_label : {p n e b : ℕ} {l : Label} {ls : Name} → slice_get m p ≡ Some n → 0 < n → n ≤ 63 → e ≡ p + 1 + n → e ≤ length m → l ≡ slice_range m (p + 1) e → Passes m e ls b → Passes m p (l ∷ ls) b

-- a name can be passed over with room for the root's octet within 255
pub record CanPass (m : List ℕ) (p b : ℕ) : Type 0 where
  pub labels : Name
  pub passes : Passes m p labels b
  pub short : wire_len labels ≤ 255

-- the reader goes behind what is passed over
pub record Skips (old new : Reader) : Type 0 where
  pub passes : CanPass old.octets old.place new.place
  pub fits : new.place ≤ old.end
  pub reader : new ≡ record old { place = new.place }

-- there is nothing to pass over that ends by the reader's end
abbrev pub NothingToSkip : Reader → Type 0
NothingToSkip r = (b : ℕ) → CanPass r.octets r.place b → b ≤ r.end → ⊥

-- Passing over with room for a number of octets stops where the octets end within a head or its label, at a head of
-- another type, or at a label that leaves no room for the root's octet.
pub data Stuck (m : List ℕ) : ℕ → ℕ → ReadFault → Type 0 where
  no_head : {p room : ℕ} → length m ≤ p → Stuck m p room Short
  half_pointer : {p room high : ℕ} → slice_get m p ≡ Some high → 192 ≤ high → length m ≤ p + 1 → Stuck m p room Short
  part_of_label : {p room n : ℕ} → slice_get m p ≡ Some n → n ≤ 63 → length m < p + 1 + n → Stuck m p room Short
  other_type : {p room n : ℕ} → slice_get m p ≡ Some n → 63 < n → n < 192 → Stuck m p room Malformed
  no_room : {p room n : ℕ} → slice_get m p ≡ Some n → 0 < n → n ≤ 63 → p + 1 + n ≤ length m → room < n + 2 → Stuck m p room Malformed
  behind_label : {p room n : ℕ} {f : ReadFault} → slice_get m p ≡ Some n → 0 < n → n ≤ 63 → p + 1 + n ≤ length m → n + 2 ≤ room → Stuck m (p + 1 + n) (room - (n + 1)) f → Stuck m p room f

-- there is nothing to pass over, or what there is ends past the reader's end
abbrev pub StopsPassing : Reader → ParseError → Type 0
StopsPassing r e =
    Stuck r.octets r.place 255 (fault_of e)
    ⊎ ((b : ℕ) × CanPass r.octets r.place b × (r.end < b) × (e ≡ ShortInput))

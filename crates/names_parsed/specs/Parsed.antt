-- Names over a message, and reading them.
use Rattle.std.specs.Prelude.{◌≡◌, ◌⊎◌, ◌<◌, ◌≤◌, ℕ, List, Ok, Err}
use Rattle.definitions.specs.Limits.{pointer_limit}
use Rattle.definitions.specs.Name.{Name}
use Rattle.definitions.specs.Reading.{Reads, pointers_of, name_at}
use Rattle.names_parser.specs.Reader.{Reader}
use Rattle.names_parser.specs.declared.error.ParseError.{ParseError}
use Rattle.names_parser.specs.declared.error.ParseError.TheVariants.{ShortInput}
use Rattle.names_parsed.specs.Standing.{Stands, name_from}
use Rattle.names_parsed.specs.Heads.{fault_of}
use Rattle.names_parsed.specs.declared.parsed.ParsedName.{ParsedName}

-- the labels of the name, without the root's
abbrev pub parsed_name : ParsedName → Name
parsed_name n = name_from n.message.now n.start

-- the message that it stands in
abbrev pub message_of : ParsedName → List ℕ
message_of n = n.message.now

-- the place of the message at which the name stands
abbrev pub place_of : ParsedName → ℕ
place_of n = n.start

-- The name stands where the reader was, which goes behind it. What a pointer leads to may run past the reader's end.
pub record ReadsName (old new : Reader) (n : ParsedName) : Type 0 where
  pub stands : Stands old.octets old.place (parsed_name n) new.place
  pub fits : new.place ≤ old.end
  pub reader : new ≡ record old { place = new.place }
  pub message : message_of n ≡ old.octets
  pub place : place_of n ≡ old.place

-- no name stands where the reader is that ends by the reader's end
abbrev pub NoName : Reader → Type 0
NoName r = (n : Name) (e : ℕ) → Stands r.octets r.place n e → e ≤ r.end → ⊥

-- reading a name there stops at this fault, or the name ends past the reader's end
abbrev pub StopsAt : Reader → ParseError → Type 0
StopsAt r e =
    (name_at pointer_limit r.octets r.place ≡ Err (fault_of e))
    ⊎ ((n : Name) × (b : ℕ) × (name_at pointer_limit r.octets r.place ≡ Ok (n, b)) × (r.end < b) × (e ≡ ShortInput))

-- a name stands at a place through pointers
abbrev pub HasPointers : List ℕ → ℕ → Type 0
HasPointers m p = (n : Name) × (e : ℕ) × (r : Reads m p pointer_limit n e) × (0 < pointers_of r)

-- a name stands at a place without pointers
abbrev pub HasNoPointers : List ℕ → ℕ → Type 0
HasNoPointers m p = (n : Name) × (e : ℕ) × (r : Reads m p pointer_limit n e) × (pointers_of r ≡ 0)

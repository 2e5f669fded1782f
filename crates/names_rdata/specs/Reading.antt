-- Record data, read in a message (RFC 1035, 3.2.1 and 4.1.4).
use Rattle.std.specs.Prelude.{◌≡◌, ℕ, ◌+◌, Bool, true, false, List, ◌++◌, length, Option, Some, None, Result, Ok, Err, slice_range, nat_le, nat_eq, if◌then◌else◌}
use Rattle.definitions.specs.Limits.{pointer_limit}
use Rattle.definitions.specs.Name.{Name, wire}
use Rattle.definitions.specs.Reading.{ReadFault, Short, Malformed, name_at}
use Rattle.names_parser.specs.Reader.{Reader}
use Rattle.names_parser.specs.declared.error.ParseError.{ParseError}
use Rattle.names_parsed.specs.Heads.{fault_of}

-- A part of data, from a place of the message on and up to the end of the data at most: its octets, names in full, and
-- the place behind it.
abbrev pub Part : Type 0
Part = List ℕ → ℕ → ℕ → Result (List ℕ × ℕ) ReadFault

-- the part of a given number of octets
abbrev pub octets_part : ℕ → Part
octets_part n m p e = if nat_le (p + n) e then Ok (slice_range m p (p + n), p + n) else Err Short

-- a name that ends by the end of the data, in full
abbrev pub name_inside : ℕ → Result (Name × ℕ) ReadFault → Result (List ℕ × ℕ) ReadFault
name_inside e (Ok r) = if nat_le r.1 e then Ok (wire r.0, r.1) else Err Short
name_inside e (Err f) = Err f

-- a name, read in the whole message, that ends inside the data
abbrev pub name_part : Part
name_part m p e = name_inside e (name_at pointer_limit m p)

-- the part of all octets that are left
abbrev pub rest_part : Part
rest_part m p e = Ok (slice_range m p e, e)

abbrev pub behind_octets : List ℕ → Result (List ℕ × ℕ) ReadFault → Result (List ℕ × ℕ) ReadFault
behind_octets octets (Ok r) = Ok (octets ++ r.0, r.1)
behind_octets octets (Err f) = Err f

abbrev pub followed_by : Part → List ℕ → ℕ → Result (List ℕ × ℕ) ReadFault → Result (List ℕ × ℕ) ReadFault
followed_by b m e (Ok r) = behind_octets r.0 (b m r.1 e)
followed_by b m e (Err f) = Err f

-- one part, and another behind it
abbrev pub two_parts : Part → Part → Part
two_parts a b m p e = followed_by b m e (a m p e)

abbrev pub if_short : Result (List ℕ × ℕ) ReadFault → Result (List ℕ × ℕ) ReadFault
if_short (Ok r) = if nat_le (length r.0) 65535 then Ok r else Err Malformed
if_short (Err f) = Err f

-- a part of at most 65,535 octets, names in full
abbrev pub limited : Part → Part
limited a m p e = if_short (a m p e)

-- octets that end where the data end
abbrev pub ended : ℕ → Result (List ℕ × ℕ) ReadFault → Result (List ℕ) ReadFault
ended e (Ok r) = if nat_eq r.1 e then Ok r.0 else Err Malformed
ended e (Err f) = Err f

-- the octets of data that are such a part, from the reader's place to its end
abbrev pub data_at : Part → Reader → Result (List ℕ) ReadFault
data_at part r = ended r.end (part r.octets r.place r.end)

-- The reader goes behind a part, which is a value's; or there is none, and it may have gone on.
abbrev pub ReadsPart : {A : Type 0} → Part → (A → List ℕ) → Reader → Reader → Result A ParseError → Type 0
ReadsPart part octets old new (Ok a) = (part old.octets old.place old.end ≡ Ok (octets a, new.place)) × (new ≡ record old { place = new.place })
ReadsPart part octets old new (Err e) = (part old.octets old.place old.end ≡ Err (fault_of e)) × (new ≡ record old { place = new.place })

-- The value that was read stays where the reader is at its end; else it goes back to a place.
abbrev pub Closes : {A : Type 0} → ℕ → Reader → Reader → Result A ParseError → Result A ParseError → Type 0
Closes start old new (Ok a) (Ok b) = (b ≡ a) × (old.place ≡ old.end) × (new ≡ old)
Closes start old new (Ok a) (Err e) = (old.place ≡ old.end → ⊥) × (fault_of e ≡ Malformed) × (new ≡ record old { place = start })
Closes start old new (Err f) (Ok b) = ⊥
Closes start old new (Err f) (Err e) = (e ≡ f) × (new ≡ record old { place = start })

-- the reader goes to its end, and what was left is a value's; or it stays
abbrev pub ReadsData : {A : Type 0} → Result (List ℕ) ReadFault → (A → List ℕ) → Reader → Reader → Result A ParseError → Type 0
ReadsData found octets old new (Ok a) = (found ≡ Ok (octets a)) × (new ≡ record old { place = old.end })
ReadsData found octets old new (Err e) = (found ≡ Err (fault_of e)) × (new ≡ old)

-- data of a type that is read are read up to the reader's end; data of another type are left
abbrev pub ReadsType : {A : Type 0} → Bool → Result (List ℕ) ReadFault → (A → List ℕ) → Reader → Reader → Result (Option A) ParseError → Type 0
ReadsType is_read found octets old new (Ok (Some a)) = (is_read ≡ true) × (found ≡ Ok (octets a)) × (new ≡ record old { place = old.end })
ReadsType is_read found octets old new (Ok None) = (is_read ≡ false) × (new ≡ old)
ReadsType is_read found octets old new (Err e) = (is_read ≡ true) × (found ≡ Err (fault_of e)) × (new ≡ old)

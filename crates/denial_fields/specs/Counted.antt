-- Octets behind their number in one octet (RFC 5155, 3.2).
use Rattle.std.specs.Prelude.{ℕ, List, ◌∷◌, length, Result, Ok, Err, slice_index}
use Rattle.definitions.specs.Reading.{ReadFault}
use Rattle.names_rdata.specs.Reading.{Part, octets_part, behind_octets}

abbrev pub counted : List ℕ → List ℕ
counted octets = length octets ∷ octets

-- as many octets as an octet says, behind it
abbrev pub counted_by : List ℕ → ℕ → Result (List ℕ × ℕ) ReadFault → Result (List ℕ × ℕ) ReadFault
counted_by m e (Ok r) = behind_octets r.0 (octets_part (slice_index r.0 0) m r.1 e)
counted_by m e (Err f) = Err f

-- octets behind their number
abbrev pub counted_part : Part
counted_part m p e = counted_by m e (octets_part 1 m p e)

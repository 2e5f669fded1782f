-- What was written, read again wherever it stands in a message.
use Rattle.std.specs.Prelude.{◌≡◌, ℕ, ◌+◌, List, ◌++◌, length, Ok}
use Rattle.definitions.specs.Name.{Name, IsName, wire}
use Rattle.names_parser.specs.Reader.{Reader}
use Rattle.names_parsed.specs.Standing.{Stands}
use Rattle.names_rdata.specs.Reading.{Part, data_at}

-- a reader of these octets in a message, others before and behind them
abbrev pub reader_of : List ℕ → List ℕ → List ℕ → Reader
reader_of before octets behind = record { octets = before ++ (octets ++ behind); place = length before; end = length before + length octets }

-- a name in wire form is read as that name, and ends behind its octets
abbrev pub NamesAreReadBack : Type 0
NamesAreReadBack = (before behind : List ℕ) (n : Name) → IsName n → Stands (before ++ (wire n ++ behind)) (length before) n (length before + length (wire n))

-- the data are read as these octets
abbrev pub IsReadBack : Part → List ℕ → Type 0
IsReadBack part octets = (before behind : List ℕ) → data_at part (reader_of before octets behind) ≡ Ok octets

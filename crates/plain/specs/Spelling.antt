-- What the octets of data and records stand for: where they are read, and that they spell one value.
use Rattle.std.specs.Prelude.{◌≡◌, ◌↔◌, ℕ, ◌+◌, ◌^◌, ◌<◌, ◌≤◌, true, List, ◌++◌, length, Ok, slice_range}
use Rattle.definitions.specs.Name.{Name, IsName, wire, low, same}
use Rattle.names_parser.specs.Reader.{Reader}
use Rattle.names_parsed.specs.Standing.{Stands}
use Rattle.names_rdata.specs.Reading.{data_at, name_part}
use Rattle.names_rdata.specs.ReadBack.{IsReadBack}
use Rattle.plain.specs.Soa.{soa_part, soa_octets, soa_canonical}
use Rattle.plain.specs.Ns.{ns_octets, ns_canonical}
use Rattle.plain.specs.Records.{spelled}
use Rattle.plain.specs.declared.soa.Soa.{Soa}
use Rattle.plain.specs.declared.soa.Times.{Times}
use Rattle.plain.specs.declared.ns.Ns.{Ns}

-- Two names stand one behind the other, the first where the reader is, and twenty octets behind them up to its end.
pub record StandsAsSoa (r : Reader) (mname rname : Name) (numbers : List ℕ) : Type 0 where
  pub behind_mname : ℕ
  pub behind_rname : ℕ
  pub mname_stands : Stands r.octets r.place mname behind_mname
  pub rname_stands : Stands r.octets behind_mname rname behind_rname
  pub all : r.end ≡ behind_rname + 20
  pub numbers_stand : numbers ≡ slice_range r.octets behind_rname r.end

-- SOA data are read exactly where two names and twenty octets stand: as these, the names in full (RFC 1035, 3.3.13)
abbrev pub SoaIsNamesAndNumbers : Type 0
SoaIsNamesAndNumbers =
    (r : Reader) (octets : List ℕ) → (data_at soa_part r ≡ Ok octets)
    ↔ ((mname : Name) × (rname : Name) × (numbers : List ℕ) × StandsAsSoa r mname rname numbers × (octets ≡ wire mname ++ (wire rname ++ numbers)))

-- SOA data that were written are read back wherever they stand in a message
abbrev pub SoaIsReadBack : Type 0
SoaIsReadBack = (m r : Name) (numbers : List ℕ) → IsName m → IsName r → length numbers ≡ 20 → IsReadBack soa_part (wire m ++ (wire r ++ numbers))

-- NS data are read exactly where a name stands up to the reader's end (RFC 1035, 3.3.11)
abbrev pub NsIsName : Type 0
NsIsName = (r : Reader) (octets : List ℕ) → (data_at name_part r ≡ Ok octets) ↔ ((n : Name) × Stands r.octets r.place n r.end × (octets ≡ wire n))

-- SOA data of names, and of numbers that fit 32 bits
pub record IsSoa (s : Soa Name) : Type 0 where
  pub mname : IsName s.mname
  pub rname : IsName s.rname
  pub serial : s.times.serial < 2 ^ 32
  pub refresh : s.times.refresh < 2 ^ 32
  pub retry : s.times.retry < 2 ^ 32
  pub expire : s.times.expire < 2 ^ 32
  pub minimum : s.times.minimum < 2 ^ 32

-- a name as it is
abbrev pub itself : Name → Name
itself n = n

-- two SOA data are the same up to the case of names
pub record SameSoa (a b : Soa Name) : Type 0 where
  pub mname : same a.mname b.mname ≡ true
  pub rname : same a.rname b.rname ≡ true
  pub times : a.times ≡ b.times

-- SOA data with the same octets have the same fields; with the same octets in canonical form they have up to case
pub record SoaOctetsSpell : Type 0 where
  pub plain : (a b : Soa Name) → IsSoa a → IsSoa b → soa_octets itself a ≡ soa_octets itself b → a ≡ b
  pub canonical : (a b : Soa Name) → IsSoa a → IsSoa b → soa_canonical itself a ≡ soa_canonical itself b → SameSoa a b

-- NS data with the same octets have the same name; with the same octets in canonical form they have up to case
pub record NsOctetsSpell : Type 0 where
  pub plain : (a b : Ns Name) → IsName a.nsdname → IsName b.nsdname → ns_octets itself a ≡ ns_octets itself b → a ≡ b
  pub canonical : (a b : Ns Name) → IsName a.nsdname → IsName b.nsdname → ns_canonical itself a ≡ ns_canonical itself b → same a.nsdname b.nsdname ≡ true

-- the parts of a record that fit their places: type, class, TTL and data
pub record FitsRecord (t c l : ℕ) (xs : List ℕ) : Type 0 where
  pub rtype : t < 2 ^ 16
  pub class : c < 2 ^ 16
  pub ttl : l < 2 ^ 32
  pub octets : length xs < 2 ^ 16

-- all parts but the owner are the same
pub record SameParts (t c l u d m : ℕ) (xs ys : List ℕ) : Type 0 where
  pub rtype : t ≡ u
  pub class : c ≡ d
  pub ttl : l ≡ m
  pub octets : xs ≡ ys

-- Records with the same octets have the same parts; the owners up to case where they stand in lower case.
pub record RecordOctetsSpell : Type 0 where
  pub plain : (o p : Name) (t c l u d m : ℕ) (xs ys : List ℕ) → IsName o → IsName p → FitsRecord t c l xs → FitsRecord u d m ys → spelled o t c l xs ≡ spelled p u d m ys → (o ≡ p) × SameParts t c l u d m xs ys
  pub canonical : (o p : Name) (t c l u d m : ℕ) (xs ys : List ℕ) → IsName o → IsName p → FitsRecord t c l xs → FitsRecord u d m ys → spelled (low o) t c l xs ≡ spelled (low p) u d m ys → (same o p ≡ true) × SameParts t c l u d m xs ys

-- The lines of a zone and of its records.
use Rattle.std.specs.Prelude.{◌≡◌, ℕ, ◌==◌, List, [], ◌∷◌, ◌++◌, codes, decimal, encode_utf8, length, if◌then◌else◌}
use Rattle.std.specs.List.{flat_map}
use Rattle.std.specs.Str.{chars}
use Rattle.hex.specs.Hex.{encode_lower}
use Rattle.definitions.specs.Name.{Name}
use Rattle.definitions.specs.Text.{text_of_name}

-- a character of a name's text; a blank stands behind a backslash there, and is three digits here, since blanks part fields
abbrev pub character_field : ℕ → List ℕ
character_field c = if c == 32 then codes "032" else encode_utf8 c

abbrev pub name_field : Name → List ℕ
name_field n = flat_map character_field (chars (text_of_name n))

-- octets in hexadecimal, or a dash for none
abbrev pub octets_field : List ℕ → List ℕ
octets_field [] = codes "-"
octets_field (o ∷ os) = encode_lower (o ∷ os)

-- a record of class IN
pub record FileRecord : Type 0 where
  pub owner : Name
  pub ttl : ℕ
  pub rtype : ℕ
  pub octets : List ℕ

-- the line of a record, with its line feed
abbrev pub record_line : FileRecord → List ℕ
record_line r = codes "rr " ++ name_field r.owner ++ (codes " " ++ decimal r.ttl ++ codes " 1 " ++ decimal r.rtype ++ codes " ") ++ octets_field r.octets ++ 10 ∷ []

abbrev pub record_lines : List FileRecord → List ℕ
record_lines rs = flat_map record_line rs

-- the line of a zone whose chain is of these words
abbrev pub zone_line : Name → List ℕ → List ℕ
zone_line apex chain = codes "zone " ++ name_field apex ++ (codes " " ++ chain ++ 10 ∷ [])

-- the same, if there are such words
abbrev pub zone_lines : Name → List ℕ → List ℕ
zone_lines apex chain = if length chain == 0 then [] else zone_line apex chain

-- one of the records is an SOA record of the name
pub record HasSoa (name : Name) (records : List FileRecord) : Type 0 where
  pub before : List FileRecord
  pub soa : FileRecord
  pub behind : List FileRecord
  pub parts : records ≡ before ++ soa ∷ behind
  pub is_soa : soa.rtype ≡ 6
  pub of_name : soa.owner ≡ name

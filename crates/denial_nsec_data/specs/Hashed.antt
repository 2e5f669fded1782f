-- The data of NSEC3 and NSEC3PARAM records (RFC 5155, 3.2 and 4.2).
use Rattle.std.specs.Prelude.{ℕ, ◌+◌, ◌%◌, ◌==◌, List, [], ◌∷◌, ◌++◌, if◌then◌else◌}
use Rattle.std.specs.Int.{w16, to_be_bytes}
use Rattle.std.specs.Fmt.{decimal}
use Rattle.definitions.specs.Base32hex.{base32hex}
use Rattle.names_rdata.specs.Reading.{Part, octets_part, two_parts, limited}
use Rattle.denial_fields.specs.Counted.{counted, counted_part}
use Rattle.denial_fields.specs.Texts.{salt_text}
use Rattle.denial_nsec_data.specs.Bitmaps.{bitmap_part, types_field}

-- the parameters of a hash, as NSEC3PARAM data have them
pub record Nsec3paramData : Type 0 where
  pub algorithm : ℕ
  pub flags : ℕ
  pub iterations : ℕ
  pub salt : List ℕ

abbrev pub nsec3param_with : ℕ → ℕ → ℕ → List ℕ → Nsec3paramData
nsec3param_with algorithm flags iterations salt = record { algorithm = algorithm; flags = flags; iterations = iterations; salt = salt }

-- the octets before the salt
abbrev pub nsec3param_head : Nsec3paramData → List ℕ
nsec3param_head d = d.algorithm ∷ d.flags ∷ to_be_bytes w16 d.iterations

abbrev pub nsec3param_octets : Nsec3paramData → List ℕ
nsec3param_octets d = nsec3param_head d ++ counted d.salt

abbrev pub nsec3param_part : Part
nsec3param_part = two_parts (octets_part 4) counted_part

-- flags with the lowest bit set
abbrev pub with_opt_out : ℕ → ℕ
with_opt_out flags = if flags % 2 == 1 then flags else flags + 1

abbrev pub nsec3param_text : Nsec3paramData → List ℕ
nsec3param_text d = decimal d.algorithm ++ 32 ∷ decimal d.flags ++ 32 ∷ decimal d.iterations ++ 32 ∷ salt_text d.salt

-- NSEC3 data: the parameters of the hash, the next hash and the types of this name
pub record Nsec3Data : Type 0 where
  pub params : Nsec3paramData
  pub next_owner : List ℕ
  pub types : List ℕ

abbrev pub nsec3_with : ℕ → ℕ → ℕ → List ℕ → List ℕ → List ℕ → Nsec3Data
nsec3_with algorithm flags iterations salt next types = record { params = nsec3param_with algorithm flags iterations salt; next_owner = next; types = types }

abbrev pub nsec3_octets : Nsec3Data → List ℕ
nsec3_octets d = nsec3param_octets d.params ++ (counted d.next_owner ++ d.types)

-- the next hash and the bitmap
abbrev pub tail_part : Part
tail_part = two_parts counted_part bitmap_part

abbrev pub nsec3_part : Part
nsec3_part = limited (two_parts nsec3param_part tail_part)

-- the text of a hash behind a blank; empty where it has no octets
abbrev pub hash_field : List ℕ → List ℕ
hash_field [] = []
hash_field (o ∷ octets) = 32 ∷ base32hex (o ∷ octets)

abbrev pub nsec3_text : Nsec3Data → List ℕ
nsec3_text d = nsec3param_text d.params ++ (hash_field d.next_owner ++ types_field d.types)

-- What a signature is made over (RFC 4034, 3.1.8.1; RFC 4035, 5.3.2) and when it holds (RFC 4034, 3.1.5).
use Rattle.std.specs.Prelude.{ℕ, ◌+◌, ◌-◌, Bool, true, false, ◌&&◌, List, [], ◌∷◌, ◌++◌, length, drop, nat_lt, if◌then◌else◌}
use Rattle.std.specs.List.{flat_map}
use Rattle.std.specs.Int.{w16, w32, to_be_bytes}
use Rattle.std.specs.Str.{bytes_eq}
use Rattle.definitions.specs.Name.{Name, wire, low}
use Rattle.definitions.specs.Covering.{octets_before}
use Rattle.definitions.specs.Serial.{serial_le}

-- the fields of a signature without its octets
pub record Fields : Type 0 where
  pub covered : ℕ
  pub algorithm : ℕ
  pub labels : ℕ
  pub ttl : ℕ
  pub expiration : ℕ
  pub inception : ℕ
  pub tag : ℕ
  pub signer : Name

-- the fields with the signer in lower case, as it is signed and read (RFC 4034, 6.2)
abbrev pub lowered_signer : Fields → Fields
lowered_signer f = record f { signer = low f.signer }

-- an RRSIG record's data without the signature, the signer in canonical form (RFC 4034, 3.1)
abbrev pub fields_data : Fields → List ℕ
fields_data f =
    to_be_bytes w16 f.covered ++ f.algorithm ∷ f.labels ∷ to_be_bytes w32 f.ttl ++ to_be_bytes w32 f.expiration
    ++ to_be_bytes w32 f.inception ++ to_be_bytes w16 f.tag ++ wire (low f.signer)

-- labels without the root's and a leading star (RFC 4034, 3.1.3)
abbrev pub label_count : Name → ℕ
label_count [] = 0
label_count (l ∷ ls) = if bytes_eq l (42 ∷ []) then length ls else length ls + 1

-- the owner as signed: where the label count is smaller than the owner's, a star and its last labels (RFC 4035, 5.3.2)
abbrev pub signed_owner : ℕ → Name → Name
signed_owner count owner = if nat_lt count (label_count owner) then (42 ∷ []) ∷ drop (length owner - count) (low owner) else low owner

-- a record in canonical form (RFC 4034, 6.2)
abbrev pub canonical_record : Name → ℕ → ℕ → ℕ → List ℕ → List ℕ
canonical_record owner t class ttl d = wire owner ++ to_be_bytes w16 t ++ to_be_bytes w16 class ++ to_be_bytes w32 ttl ++ to_be_bytes w16 (length d) ++ d

-- the octets that are signed: the fields, then the RRset's records (RFC 4034, 3.1.8.1)
abbrev pub signed_octets : Fields → Name → ℕ → List (List ℕ) → List ℕ
signed_octets f owner class ds = fields_data f ++ flat_map (canonical_record (signed_owner f.labels owner) f.covered class f.ttl) ds

-- each strictly before the next
abbrev pub ascending : List (List ℕ) → Bool
ascending [] = true
ascending (d ∷ []) = true
ascending (d ∷ e ∷ ds) = elim (octets_before d e) [ true ↦ ascending (e ∷ ds) | false ↦ false ]

-- the signature holds now: inception ≤ now ≤ expiration as serial numbers
abbrev pub in_time : Fields → ℕ → Bool
in_time f now = serial_le f.inception now && serial_le now f.expiration

-- Octets put together of parts, each of which tells where it ends.
use Rattle.std.specs.Prelude.{◌≡◌, ℕ, Bool, ◌+◌, ◌<◌, ◌≤◌, List, [], ◌∷◌, ◌++◌, length, Option, Some, None, if◌then◌else◌}
use Rattle.std.specs.Int.{w32, to_be_bytes}
use Rattle.std.specs.List.{AllByRecursion, flat_map}
use Rattle.names_rdata.specs.Composing.{with_length}
use Rattle.definitions.specs.Dnskey.{Ds, dnskey_data}
use Rattle.denial_keys.specs.Keys.{ds_data}
use Rattle.answer_findings.specs.Table.{Checked}

-- octets behind their number in four octets
abbrev pub with_long_length : List ℕ → List ℕ
with_long_length octets = to_be_bytes w32 (length octets) ++ octets

-- so many that two octets, or four, tell how many
abbrev pub IsShort : List ℕ → Type 0
IsShort octets = length octets < 65536

abbrev pub IsLong : List ℕ → Type 0
IsLong octets = length octets < 4294967296

-- What stands in front of octets, and what stands behind it: something exactly where something of its kind stands there.
abbrev pub Splits : {A : Type 0} → (A → Type 0) → (A → List ℕ) → List ℕ → Option (A × List ℕ) → Type 0
Splits {A = A} Fits written octets None = (a : A) (behind : List ℕ) → Fits a → octets ≡ written a ++ behind → ⊥
Splits Fits written octets (Some p) = Fits p.0 × (octets ≡ written p.0 ++ p.1)

-- octets are those of a list, one entry behind another
pub record IsList {A : Type 0} (Fits : A → Type 0) (written : A → List ℕ) (octets : List ℕ) (items : List A) : Type 0 where
  pub fit : AllByRecursion Fits items
  pub octets_are : octets ≡ flat_map written items

-- ---- DS records

-- a tag of 16 bits, and data that a record holds
pub record FitsDs (d : Ds) : Type 0 where
  pub tag : d.tag < 65536
  pub short : 4 + length d.digest ≤ 65535

-- data behind their length, as they stand in a message (RFC 1035, 3.2.1; RFC 4034, 5.1)
abbrev pub ds_octets : Ds → List ℕ
ds_octets d = with_length (ds_data d)

-- ---- checked signatures

-- 1 where a signature passes, and else 0
abbrev pub passes_octets : Bool → List ℕ
passes_octets passes = (if passes then 1 else 0) ∷ []

pub record FitsChecked (c : Checked) : Type 0 where
  pub flags : c.tried.key.flags < 65536
  pub short : 4 + length c.tried.key.octets ≤ 65535
  pub octets : IsLong c.tried.octets
  pub signature : IsShort c.tried.signature

-- The key's data and the signature behind their lengths in two octets, as in messages, between them what the signature is made
-- over behind its length in four; last whether the signature passes.
abbrev pub checked_octets : Checked → List ℕ
checked_octets c =
    with_length (dnskey_data c.tried.key) ++ with_long_length c.tried.octets ++ with_length c.tried.signature ++ passes_octets c.passes

-- The hash of a name, and the owner of its record (RFC 5155, 3 and 5).
use Rattle.std.specs.Prelude.{ℕ, List, [], ◌∷◌, Option, unwrap_or}
use Rattle.definitions.specs.Base32hex.{base32hex}
use Rattle.definitions.specs.Name.{Name, IsName, low, wire}
use Rattle.denial_nsec_data.specs.Hashed.{Nsec3paramData}

-- what a hasher answers for a name in lower-case wire form, an algorithm, iterations and a salt
abbrev pub Answers : Type 0
Answers = List ℕ → ℕ → ℕ → List ℕ → Option (List ℕ)

-- what a hasher answers for a name
abbrev pub answered : Answers → Nsec3paramData → Name → Option (List ℕ)
answered answers p n = answers (wire (low n)) p.algorithm p.iterations p.salt

-- the hash of a name that is hashed
abbrev pub hash_by : Answers → Nsec3paramData → Name → List ℕ
hash_by answers p n = unwrap_or (answered answers p n) []

-- the hash in base32hex under the apex
abbrev pub hashed_owner : Name → List ℕ → Name
hashed_owner apex hash = base32hex hash ∷ apex

-- the hash fits in a label, and its owner name is not too long
abbrev pub FitsName : Name → List ℕ → Type 0
FitsName apex hash = IsName (hashed_owner apex hash)

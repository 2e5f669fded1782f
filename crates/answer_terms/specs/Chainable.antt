-- What a chain of hashes asks of its hasher, and why there is none (RFC 5155, 7.1).
use Rattle.std.specs.Prelude.{◌≡◌, ℕ, ◌<◌, Bool, List, Contains, Some, None}
use Rattle.std.specs.List.{AllByRecursion}
use Rattle.definitions.specs.Laws.{NoneShare}
use Rattle.definitions.specs.Name.{Name, low, wire}
use Rattle.definitions.specs.Zone.{Zone}
use Rattle.definitions.specs.ZoneChain.{Mode, Nsec, Nsec3, nsec3_names}
use Rattle.denial_nsec3_hash.specs.Hashing.{FitsName}
use Rattle.answer_terms.specs.Hashing.{Hasher, hash_in}

-- a name has this hash
abbrev pub HasHash : Hasher → ℕ → List ℕ → Name → List ℕ → Type 0
HasHash hash iterations salt n h = hash (wire (low n)) 1 iterations salt ≡ Some h

-- a name of the chain, and its hash
pub record Hashed (hash : Hasher) (iterations : ℕ) (salt : List ℕ) (optout : Bool) (z : Zone) : Type 0 where
  pub name : Name
  pub of_chain : Contains (nsec3_names z optout) name
  pub octets : List ℕ
  pub has : HasHash hash iterations salt name octets

-- each name of the chain has a hash
abbrev pub AllHashed : Hasher → ℕ → List ℕ → Bool → Zone → Type 0
AllHashed hash iterations salt optout z =
    (n : Name) → Contains (nsec3_names z optout) n → (h : List ℕ) × HasHash hash iterations salt n h

-- the hash of each name is of octets and fits, and no two names share one
pub record IsChainable (hash : Hasher) (iterations : ℕ) (salt : List ℕ) (optout : Bool) (z : Zone) : Type 0 where
  pub hashed : AllHashed hash iterations salt optout z
  pub octets : (n : Name) → Contains (nsec3_names z optout) n → AllByRecursion (λ x. x < 256) (hash_in hash (Nsec3 iterations salt optout) n)
  pub fit : (n : Name) → Contains (nsec3_names z optout) n → FitsName z.name (hash_in hash (Nsec3 iterations salt optout) n)
  pub apart : NoneShare (hash_in hash (Nsec3 iterations salt optout)) (nsec3_names z optout)

-- a chain of names asks for nothing
abbrev pub HasChain : Hasher → Mode → Zone → Type 0
HasChain hash Nsec z = Unit {0}
HasChain hash (Nsec3 iterations salt optout) z = IsChainable hash iterations salt optout z

-- ---- why there is no chain of hashes

-- a name of the chain is not hashed
pub record FailsHashing (hash : Hasher) (iterations : ℕ) (salt : List ℕ) (optout : Bool) (z : Zone) : Type 0 where
  pub name : Name
  pub of_chain : Contains (nsec3_names z optout) name
  pub fails : hash (wire (low name)) 1 iterations salt ≡ None

-- all names are hashed, and one's hash fits no name
pub record HashesTooLong (hash : Hasher) (iterations : ℕ) (salt : List ℕ) (optout : Bool) (z : Zone) : Type 0 where
  pub hashed : AllHashed hash iterations salt optout z
  pub one : Hashed hash iterations salt optout z
  pub long : FitsName z.name one.octets → ⊥

-- all names are hashed, and two unlike ones share a hash
pub record HashesCollide (hash : Hasher) (iterations : ℕ) (salt : List ℕ) (optout : Bool) (z : Zone) : Type 0 where
  pub hashed : AllHashed hash iterations salt optout z
  pub first : Hashed hash iterations salt optout z
  pub second : Hashed hash iterations salt optout z
  pub unlike : first.name ≡ second.name → ⊥
  pub shared : first.octets ≡ second.octets

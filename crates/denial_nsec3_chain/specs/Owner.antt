-- The owner of a name's NSEC3 record (RFC 5155, 3).
use Rattle.std.specs.Prelude.{◌≡◌, ℕ, List, Option, Some, None}
use Rattle.definitions.specs.Name.{Name}
use Rattle.denial_nsec3_hash.specs.Hashing.{hashed_owner, FitsName}
use Rattle.denial_chain_owners.specs.declared.error.SigningError.{SigningError}
use Rattle.denial_chain_owners.specs.declared.error.SigningError.TheVariants.{NoSingleSoa, MultipleTtlValues, HashFailed, HashTooLong, HashCollision, Memory}

-- there is a hash, it fits in an owner name, and this is that owner name
abbrev pub IsOwnerOf : Name → Option (List ℕ) → Name → Type 0
IsOwnerOf apex None n = ⊥
IsOwnerOf apex (Some h) n = (n ≡ hashed_owner apex h) × FitsName apex h

abbrev pub FitsNone : Name → Option (List ℕ) → Type 0
FitsNone apex None = ⊥
FitsNone apex (Some h) = FitsName apex h → ⊥

-- the cause of a refusal holds; lack of memory has no cause here
abbrev pub IsOwnerFault : Name → Option (List ℕ) → SigningError → Type 0
IsOwnerFault apex answer HashFailed = answer ≡ None
IsOwnerFault apex answer HashTooLong = FitsNone apex answer
IsOwnerFault apex answer Memory = Unit {0}
IsOwnerFault apex answer NoSingleSoa = ⊥
IsOwnerFault apex answer MultipleTtlValues = ⊥
IsOwnerFault apex answer HashCollision = ⊥

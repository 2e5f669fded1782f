-- An accepted zone beside what hashes its names.
use Rattle.std.specs.Prelude.{◌≡◌, ℕ, false, List, Contains, IsSome, MatchResult, None, Result}
use Rattle.definitions.specs.Name.{Name, low, wire}
use Rattle.definitions.specs.Zone.{verdict}
use Rattle.definitions.specs.ZoneChain.{Mode, Nsec, Nsec3, optout_of}
use Rattle.denial_nsec3_hash.specs.declared.hasher.HashError.{HashError}
use Rattle.denial_nsec3_hash.specs.declared.hasher.HashError.TheVariants.{Failed, Memory}
use Rattle.messages.specs.HandedRr.{HandedRr}
use Rattle.answer_terms.specs.Hashing.{Hasher, served}
use Rattle.answer_terms.specs.Served.{Served, spoken}
use Rattle.answer_terms.specs.ZoneView.{AcceptedZone}

-- a zone that was accepted under a hasher, and that hasher
pub record HashedZone (H : Type 0) : Type 0 where
  pub apex : Name
  pub mode : Mode
  pub limit : ℕ
  pub records : List HandedRr
  pub hasher : H

-- the zone alone
abbrev pub accepted_zone : {H : Type 0} → HashedZone H → AcceptedZone
accepted_zone z = record { apex = z.apex; mode = z.mode; limit = z.limit; records = z.records }

-- how it is served
abbrev pub served_by : {H : Type 0} → (H → Hasher) → HashedZone H → Served
served_by hash_of z = served (hash_of z.hasher) (accepted_zone z)

-- ---- names that are hashed, and names that are not

-- the hasher has a hash for each of some names in lower case; a chain of names has no hashes
abbrev pub AreHashed : Hasher → Mode → List Name → Type 0
AreHashed hash Nsec ns = Unit {0}
AreHashed hash (Nsec3 iterations salt optout) ns = (n : Name) → Contains ns n → IsSome (hash (wire n) 1 iterations salt)

-- the hasher fails on one of them
abbrev pub FailsOn : Hasher → Mode → List Name → Type 0
FailsOn hash Nsec ns = ⊥
FailsOn hash (Nsec3 iterations salt optout) ns = (n : Name) × Contains ns n × (hash (wire n) 1 iterations salt ≡ None)

-- why a call fails: that, or want of memory
abbrev pub IsHashFailure : Hasher → Mode → List Name → HashError → Type 0
IsHashFailure hash mode ns Failed = FailsOn hash mode ns
IsHashFailure hash mode ns Memory = Unit {0}

-- what a call says of some names: by a value, that each is hashed; by an error, why not
abbrev pub HashesEach : {T : Type 0} → Hasher → Mode → List Name → Result T HashError → Type 0
HashesEach hash mode ns r = MatchResult r (λ _. AreHashed hash mode ns) (IsHashFailure hash mode ns)

-- the names that the proof of an answer speaks of
abbrev pub spoken_for : Served → Name → ℕ → List Name
spoken_for s q t = spoken s (low q) (verdict s.zone false q t) (verdict s.zone (optout_of s.mode) q t)

-- what a call says of these
abbrev pub HashesFor : {H T : Type 0} → (H → Hasher) → HashedZone H → Name → ℕ → Result T HashError → Type 0
HashesFor hash_of z q t r = HashesEach (hash_of z.hasher) z.mode (spoken_for (served_by hash_of z) q t) r

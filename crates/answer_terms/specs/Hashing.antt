-- How a zone is served under a hasher, and which hashes its chain and its promises ask for.
use Rattle.std.specs.Prelude.{ℕ, List, [], Contains, IsSome, Option, unwrap_or}
use Rattle.definitions.specs.Name.{Name, wire, low}
use Rattle.definitions.specs.Zone.{Zone}
use Rattle.definitions.specs.ZoneChain.{Mode, Nsec, Nsec3}
use Rattle.denial_laws.specs.Truth.{NoSharedHash, concerned}
use Rattle.answer_terms.specs.Served.{Served, served_of}
use Rattle.answer_terms.specs.ZoneView.{AcceptedZone}

-- what a hasher answers for a name in lower-case wire form, an algorithm, iterations and a salt (RFC 5155, 5)
abbrev pub Hasher : Type 0
Hasher = List ℕ → ℕ → ℕ → List ℕ → Option (List ℕ)

-- the hash of a name under the chain's parameters, or no octets where it fails
abbrev pub hash_in : Hasher → Mode → Name → List ℕ
hash_in hash Nsec n = []
hash_in hash (Nsec3 iterations salt optout) n = unwrap_or (hash (wire (low n)) 1 iterations salt) []

-- how the zone is served
abbrev pub served : Hasher → AcceptedZone → Served
served hash z = served_of z.apex z.mode (hash_in hash z.mode) z.records

-- each name that a question concerns has a hash
abbrev pub HaveHashes : Hasher → Mode → Name → Name → Type 0
HaveHashes hash Nsec apex q = Unit {0}
HaveHashes hash (Nsec3 iterations salt optout) apex q =
    (n : Name) → Contains (concerned (low apex) (low q)) n → IsSome (hash (wire n) 1 iterations salt)

-- What a zone with a chain of hashes asks of its hasher for a question: it hashes the names that the question concerns, the
-- names of the chain have different hashes, and no name of the chain shares its hash with another name that the question
-- concerns.
pub record HashesHold (hash : Hasher) (mode : Mode) (z : Zone) (q : Name) : Type 0 where
  pub made : HaveHashes hash mode z.name q
  pub apart : NoSharedHash z (hash_in hash mode) mode q

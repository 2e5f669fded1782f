-- Which names are hashed for a question, and what comes of a hash that fails (RFC 5155, 5 and 8).
use Rattle.std.specs.Prelude.{ℕ, Bool, true, false, List, [], ◌∷◌, Option, None, is_none, unwrap_or}
use Rattle.definitions.specs.Name.{Name, low, wire}
use Rattle.denial_laws.specs.Facts.{Facts, HashLink}
use Rattle.denial_laws.specs.Deciding.{hashed}

-- names are hashed as the first link of a chain of hashes says
abbrev pub answered_among : (List ℕ → ℕ → ℕ → List ℕ → Option (List ℕ)) → List HashLink → Name → Option (List ℕ)
answered_among hash [] n = None
answered_among hash (l ∷ ls) n = hash (wire (low n)) 1 l.iterations l.salt

-- a hash that fails is no octets
abbrev pub hash_among : (List ℕ → ℕ → ℕ → List ℕ → Option (List ℕ)) → List HashLink → Name → List ℕ
hash_among hash ls n = unwrap_or (answered_among hash ls n) []

abbrev pub fails_among : (List ℕ → ℕ → ℕ → List ℕ → Option (List ℕ)) → List HashLink → Name → Bool
fails_among hash ls n = is_none (answered_among hash ls n)

-- the first names, up to one of which something holds, that one too
abbrev pub up_to : (Name → Bool) → List Name → List Name
up_to f [] = []
up_to f (n ∷ ns) = n ∷ elim (f n) [ true ↦ [] | false ↦ up_to f ns ]

-- the names that are hashed for a question, until one fails
abbrev pub hashed_for : (List ℕ → ℕ → ℕ → List ℕ → Option (List ℕ)) → Name → Facts → Name → List Name
hashed_for hash apex f q = up_to (fails_among hash f.hash_links) (hashed apex (hash_among hash f.hash_links) f q)

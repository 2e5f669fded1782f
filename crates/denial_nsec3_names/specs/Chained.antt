-- The names of a chain with their hashes (RFC 5155, 7.1).
use Rattle.std.specs.Prelude.{◌≡◌, ◌↔◌, ℕ, Bool, true, false, List, map, not, Some, IsTrue}
use Rattle.std.specs.Str.{bytes_eq}
use Rattle.std.specs.List.{AllByRecursion, Contains, list_any}
use Rattle.std.specs.Option.{is_none}
use Rattle.definitions.specs.Name.{Name}
use Rattle.definitions.specs.Covering.{octets_before}
use Rattle.definitions.specs.Signing.{ascending}
use Rattle.plain.specs.declared.record.Record.{Record}
use Rattle.denial_nsec_data.specs.Hashed.{Nsec3paramData}
use Rattle.denial_nsec3_hash.specs.Hashing.{Answers, answered}
use Rattle.denial_nsec3_names.specs.Walk.{Spot, spot, spot_name, spots_of}
use Rattle.denial_rrsets.specs.Groups.{group_owner}
use Rattle.denial_nsec3_names.specs.declared.names.ChainName.{ChainName}
use Rattle.denial_nsec3_names.specs.declared.hashed.HashedName.{HashedName}
use Rattle.denial_nsec3_names.specs.declared.hashed.HashedChainError.{HashedChainError}
use Rattle.denial_nsec3_names.specs.declared.hashed.HashedChainError.TheVariants.{Failed, Collision, Memory}

abbrev pub spot_of : {N D : Type 0} → ChainName N D → Spot (List (Record N D))
spot_of c = spot c.group.now c.skipped

-- the name, in lower case
abbrev pub chain_name : {N D : Type 0} → (N → Name) → ChainName N D → Name
chain_name name c = spot_name (group_owner name) (spot_of c)

-- the hash is what is answered for the name
abbrev pub IsHashed : {N D : Type 0} → (N → Name) → Answers → Nsec3paramData → HashedName N D → Type 0
IsHashed name answers p h = answered answers p (chain_name name h.name) ≡ Some h.hash.items

-- some name is not hashed
abbrev pub some_fails : Answers → Nsec3paramData → List Name → Bool
some_fails answers p ns = list_any (λ n. is_none (answered answers p n)) ns

abbrev pub have_one_hash : {N D : Type 0} → HashedName N D → HashedName N D → Bool
have_one_hash a b = bytes_eq a.hash.items b.hash.items

abbrev pub has_lesser_hash : {N D : Type 0} → HashedName N D → HashedName N D → Bool
has_lesser_hash a b = octets_before a.hash.items b.hash.items

abbrev pub is_not_lesser : {N D : Type 0} → HashedName N D → HashedName N D → Bool
is_not_lesser a b = not (has_lesser_hash a b)

-- the names of the chain of some owners
abbrev pub chain_names_of : {N D : Type 0} → (N → Name) → List (List (Record N D)) → List Name
chain_names_of name gs = map (spot_name (group_owner name)) (spots_of (group_owner name) gs)

-- The names of a chain, each once with its hash, in ascending order of hash.
pub record IsHashedChain {N D : Type 0} (name : N → Name) (answers : Answers) (p : Nsec3paramData) (spots : List (Spot (List (Record N D)))) (hs : List (HashedName N D)) : Type 0 where
  pub hashes : AllByRecursion (IsHashed name answers p) hs
  pub names : (s : Spot (List (Record N D))) → Contains spots s ↔ Contains (map (λ h. spot_of h.name) hs) s
  pub ascends : IsTrue (ascending (map (λ h. h.hash.items) hs))

-- Each of some names is hashed, and one hash is answered for two of them.
pub record TwoShare (answers : Answers) (p : Nsec3paramData) (ns : List Name) : Type 0 where
  pub hashed : some_fails answers p ns ≡ false
  pub first : Name
  pub second : Name
  pub unlike : first ≡ second → ⊥
  pub has_first : Contains ns first
  pub has_second : Contains ns second
  pub hash : List ℕ
  pub of_first : answered answers p first ≡ Some hash
  pub of_second : answered answers p second ≡ Some hash

-- why names have no chain: one is not hashed, or all are and two share a hash
abbrev pub IsChainFault : Answers → Nsec3paramData → List Name → HashedChainError → Type 0
IsChainFault answers p ns Failed = some_fails answers p ns ≡ true
IsChainFault answers p ns Collision = TwoShare answers p ns
IsChainFault answers p ns Memory = Unit {0}

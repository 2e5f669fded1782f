-- Records of a chain that was made, as a zone keeps them.
use Rattle.std.specs.Prelude.{◌≡◌, ℕ, ◌<◌, List, [], ◌∷◌, ◌++◌, IsSome, None, true, false, map}
use Rattle.std.specs.List.{AllByRecursion}
use Rattle.definitions.specs.Name.{Name, wire}
use Rattle.definitions.specs.ZoneChain.{Mode, Nsec, Nsec3, optout_of}
use Rattle.plain.specs.ZoneData.{zone_canonical, zone_type}
use Rattle.plain.specs.declared.record.Record.{Record}
use Rattle.plain.specs.declared.zone_data.ZoneRecordData.{ZoneRecordData}
use Rattle.denial_nsec_data.specs.Hashed.{Nsec3Data, nsec3_octets}
use Rattle.denial_nsec_chain.specs.Chain.{ChainRecord}
use Rattle.denial_chain_owners.specs.Soa.{soa_ttls}
use Rattle.denial_chain_owners.specs.Ttls.{has_unequal_ttls}
use Rattle.denial_chain_owners.specs.declared.error.SigningError.{SigningError}
use Rattle.denial_chain_owners.specs.declared.error.SigningError.TheVariants as chain
use Rattle.messages.specs.HandedRr.{HandedRr, handed_of}
use Rattle.answer_terms.specs.Accepting.{zone_with}
use Rattle.answer_terms.specs.Chainable.{HasChain}
use Rattle.answer_terms.specs.HashedLinks.{HashedLink, hashed_links_of}
use Rattle.answer_terms.specs.Hashing.{Hasher, hash_in}
use Rattle.answer_terms.specs.Links.{ChainLink, links_of}
use Rattle.answer_zone_records.specs.Faults.{IsModeFault}
use Rattle.answer_zone_records.specs.declared.chains.Chain.{Chain}
use Rattle.answer_zone_records.specs.declared.chains.Chain.TheVariants.{Names, Hashes}

abbrev pub link_of : ChainRecord → ChainLink
link_of r = record { owner = r.owner; next = r.next; octets = wire r.next ++ r.types }

-- ---- a chain of hashes

-- a record with the hash of its owner
abbrev pub hashed_link_of : List ℕ → Record Name Nsec3Data → HashedLink
hashed_link_of hash r = record { owner = r.owner; hash = hash; next = r.content.next_owner; octets = nsec3_octets r.content }

-- its hash is of octets
abbrev pub HasOctets : HashedLink → Type 0
HasOctets l = AllByRecursion (λ x. x < 256) l.hash

-- the hash of each is the next hash of the one before it
abbrev pub hashed_from : List ℕ → List (Record Name Nsec3Data) → List HashedLink
hashed_from hash [] = []
hashed_from hash (r ∷ rs) = hashed_link_of hash r ∷ hashed_from r.content.next_owner rs

-- the next hash of the last
abbrev pub last_next : List ℕ → List (Record Name Nsec3Data) → List ℕ
last_next hash [] = hash
last_next hash (r ∷ rs) = last_next r.content.next_owner rs

-- round a circle
abbrev pub hashed_around : List (Record Name Nsec3Data) → List HashedLink
hashed_around rs = hashed_from (last_next [] rs) rs

-- ---- a chain of either kind

-- it is that of records in order
abbrev pub IsChain : Hasher → Name → Mode → List HandedRr → Chain → Type 0
IsChain hash apex Nsec rs (Names ls) = ls.items ≡ links_of apex rs
IsChain hash apex Nsec rs (Hashes ls) = ⊥
IsChain hash apex (Nsec3 iterations salt optout) rs (Names ls) = ⊥
IsChain hash apex (Nsec3 iterations salt optout) rs (Hashes ls) =
    let mode = Nsec3 iterations salt optout in ls.items ≡ hashed_links_of (hash_in hash mode) mode apex rs

-- what a chain asks of its records stands
pub record IsMade {O : Type 0} (hash : Hasher) (apex : Name) (mode : Mode) (rs : List (Record Name (ZoneRecordData O Name))) : Type 0 where
  pub soa : IsSome (soa_ttls (λ n. n) apex rs)
  pub ttls : has_unequal_ttls (λ n. n) zone_type (zone_canonical (λ n. n)) apex (optout_of mode) rs ≡ false
  pub chain : HasChain hash mode (zone_with apex (map handed_of rs))

-- the cause of a refusal stands; want of memory has none here
abbrev pub IsUnmade : {O : Type 0} → Hasher → Name → Mode → List (Record Name (ZoneRecordData O Name)) → SigningError → Type 0
IsUnmade hash apex mode rs chain.NoSingleSoa = soa_ttls (λ n. n) apex rs ≡ None
IsUnmade hash apex mode rs chain.MultipleTtlValues = has_unequal_ttls (λ n. n) zone_type (zone_canonical (λ n. n)) apex (optout_of mode) rs ≡ true
IsUnmade hash apex mode rs chain.Memory = Unit {0}
IsUnmade hash apex mode rs e = IsModeFault hash mode (zone_with apex (map handed_of rs)) e

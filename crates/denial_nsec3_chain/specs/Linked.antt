-- Records made of names with their hashes, each with the next hash.
use Rattle.std.specs.Prelude.{ℕ, Bool, List, [], ◌∷◌}
use Rattle.std.specs.List.{Contains}
use Rattle.definitions.specs.Bitmap.{bitmap}
use Rattle.definitions.specs.Name.{Name}
use Rattle.definitions.specs.ZoneChain.{links}
use Rattle.plain.specs.declared.record.Record.{Record}
use Rattle.denial_nsec_data.specs.Hashed.{Nsec3Data, Nsec3paramData}
use Rattle.denial_nsec3_hash.specs.Hashing.{hashed_owner, FitsName}
use Rattle.denial_nsec3_names.specs.Chained.{spot_of}
use Rattle.denial_nsec3_names.specs.declared.hashed.HashedName.{HashedName}
use Rattle.denial_chain_owners.specs.declared.error.SigningError.{SigningError}
use Rattle.denial_chain_owners.specs.declared.error.SigningError.TheVariants.{NoSingleSoa, MultipleTtlValues, HashFailed, HashTooLong, HashCollision, Memory}
use Rattle.denial_nsec3_chain.specs.Bits.{spot_types}

-- how records are made: the parameters of the hash and the flags; whether DNSKEY records will be added later; the TTL
pub record Making : Type 0 where
  pub params : Nsec3paramData
  pub dnskey : Bool
  pub ttl : ℕ

-- an NSEC3 record of class IN (RFC 5155, 3)
abbrev pub nsec3_record : Making → Name → List ℕ → List ℕ → List ℕ → Record Name Nsec3Data
nsec3_record m apex hash next types = record {
  owner = hashed_owner apex hash;
  class = 1;
  ttl = m.ttl;
  content = record { params = m.params; next_owner = next; types = bitmap types };
}

-- the record of a name and the next one
abbrev pub linked : {N D : Type 0} → (N → Name) → (D → ℕ) → Name → Making → HashedName N D × HashedName N D → Record Name Nsec3Data
linked name rtype apex m l = nsec3_record m apex l.0.hash.items l.1.hash.items (spot_types name rtype apex m.dnskey (spot_of l.0.name))

-- each item with the next, the last with the first
abbrev pub links_around : {A : Type 0} → List A → List (A × A)
links_around [] = []
links_around (a ∷ xs) = links a (a ∷ xs)

-- one of some hashes has no owner name, where the error says so
abbrev pub IsLinkFault : Name → List (List ℕ) → SigningError → Type 0
IsLinkFault apex hashes HashTooLong = (h : List ℕ) × (Contains hashes h × (FitsName apex h → ⊥))
IsLinkFault apex hashes Memory = Unit {0}
IsLinkFault apex hashes NoSingleSoa = ⊥
IsLinkFault apex hashes MultipleTtlValues = ⊥
IsLinkFault apex hashes HashFailed = ⊥
IsLinkFault apex hashes HashCollision = ⊥

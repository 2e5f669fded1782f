-- Records that a zone may hold, as they are handed in.
use Rattle.std.specs.Prelude.{◌≡◌, ◌⊎◌, MatchBool, ℕ, ◌<◌, false, List, ◌++◌, length}
use Rattle.std.specs.List.{AllByRecursion}
use Rattle.definitions.specs.Name.{Name, IsName, wire, low}
use Rattle.messages.specs.HandedRr.{HandedRr, is_meta}

-- the data of an NS record, as spelled and in canonical form (RFC 1035, 3.3.11; RFC 4034, 6.2)
pub record SpellsNs (written canonical : List ℕ) : Type 0 where
  pub name : Name
  pub is : IsName name
  pub written_is : written ≡ wire name
  pub canonical_is : canonical ≡ wire (low name)

-- the data of an SOA record, as spelled and in canonical form (RFC 1035, 3.3.13)
pub record SpellsSoa (written canonical : List ℕ) : Type 0 where
  pub mname : Name
  pub rname : Name
  pub numbers : List ℕ
  pub mname_is : IsName mname
  pub rname_is : IsName rname
  pub five : length numbers ≡ 20
  pub written_is : written ≡ wire mname ++ wire rname ++ numbers
  pub canonical_is : canonical ≡ wire (low mname) ++ wire (low rname) ++ numbers

-- data of unknown types are their octets
abbrev pub SpellsData : HandedRr → Type 0
SpellsData r = MatchBool r.is_unknown (r.bytes ≡ r.written) (((r.rtype ≡ 2) × SpellsNs r.written r.bytes) ⊎ ((r.rtype ≡ 6) × SpellsSoa r.written r.bytes))

-- a record whose fields hold what they say
pub record IsHanded (r : HandedRr) : Type 0 where
  pub owner : IsName r.owner
  pub rtype : r.rtype < 65536
  pub ttl : r.ttl < 4294967296
  pub spells : SpellsData r

-- names and records of an accepted zone, which messages can spell
pub record AreHanded (apex : Name) (rs : List HandedRr) : Type 0 where
  pub apex_is : IsName apex
  pub records_are : AllByRecursion IsHanded rs
  pub known : AllByRecursion (λ r. is_meta r ≡ false) rs

-- Why a zone has no chain of hashed names.
use Rattle.std.specs.Prelude.{◌≡◌, ℕ, Bool, true, false, List, Some, None}
use Rattle.std.specs.List.{AllByRecursion, Contains}
use Rattle.definitions.specs.Laws.{NoneShare}
use Rattle.definitions.specs.Name.{Name}
use Rattle.definitions.specs.ZoneChain.{nsec3_names}
use Rattle.plain.specs.ZoneData.{zone_type, zone_canonical}
use Rattle.plain.specs.declared.record.Record.{Record}
use Rattle.plain.specs.declared.zone_data.ZoneRecordData.{ZoneRecordData}
use Rattle.denial_nsec3_hash.specs.Hashing.{Answers, answered, hash_by, FitsName}
use Rattle.denial_nsec3_hash.specs.declared.config.GenerateNsec3Config.{GenerateNsec3Config}
use Rattle.denial_nsec3_names.specs.Chained.{some_fails, TwoShare}
use Rattle.denial_chain_owners.specs.Soa.{soa_ttls}
use Rattle.denial_chain_owners.specs.Ttls.{has_unequal_ttls}
use Rattle.denial_chain_owners.specs.declared.error.SigningError.{SigningError}
use Rattle.denial_chain_owners.specs.declared.error.SigningError.TheVariants.{NoSingleSoa, MultipleTtlValues, HashFailed, HashTooLong, HashCollision, Memory}
use Rattle.denial_chain_owners.specs.declared.soa.SoaTtls.{SoaTtls}
use Rattle.denial_nsec3_chain.specs.Chain.{zone_among, leaves_out}

module _ {O N S : Type 0} (name : N → Name) (apex : Name) (answers : Answers) (c : GenerateNsec3Config S) (rs : List (Record N (ZoneRecordData O N))) where
  -- the names of the chain
  abbrev pub names_among : List Name
  names_among = nsec3_names (zone_among name apex rs) (leaves_out c)

  abbrev pub unequal_ttls : Bool
  unequal_ttls = has_unequal_ttls name zone_type (zone_canonical name) apex (leaves_out c) rs

  -- Each name of the chain is hashed, no two share a hash, and that of one fits no name.
  pub record OneIsTooLong : Type 0 where
    pub hashed : some_fails answers c.params names_among ≡ false
    pub apart : NoneShare (hash_by answers c.params) names_among
    pub one : Name
    pub has_one : Contains names_among one
    pub hash : List ℕ
    pub of_one : answered answers c.params one ≡ Some hash
    pub long : FitsName apex hash → ⊥

  -- The cause of a refusal stands; want of memory has none here. Hashes are spoken of only where they were answered.
  abbrev pub IsNsec3Fault : SigningError → Type 0
  IsNsec3Fault NoSingleSoa = soa_ttls name apex rs ≡ None
  IsNsec3Fault MultipleTtlValues = unequal_ttls ≡ true
  IsNsec3Fault HashFailed = some_fails answers c.params names_among ≡ true
  IsNsec3Fault HashTooLong = OneIsTooLong
  IsNsec3Fault HashCollision = TwoShare answers c.params names_among
  IsNsec3Fault Memory = Unit {0}

  -- No cause of a refusal stands: the apex has one SOA record, with these TTLs, no RRset of a kept owner has unequal
  -- TTLs, and each name of the chain has a hash, which fits a name and is no other's.
  pub record HasNoFault (s : SoaTtls) : Type 0 where
    pub soa : soa_ttls name apex rs ≡ Some s
    pub ttls : unequal_ttls ≡ false
    pub hashed : some_fails answers c.params names_among ≡ false
    pub fit : AllByRecursion (λ o. FitsName apex (hash_by answers c.params o)) names_among
    pub apart : NoneShare (hash_by answers c.params) names_among

-- The NSEC records of a zone (RFC 4034, 4; RFC 4035, 2.3).
use Rattle.std.specs.Prelude.{ℕ, Bool, List, [], ◌∷◌, map, Option, Some, None}
use Rattle.std.specs.Borrow.{Bor}
use Rattle.definitions.specs.Name.{Name}
use Rattle.definitions.specs.Bitmap.{bitmap}
use Rattle.definitions.specs.ZoneChain.{nsec_names, nsec_next, nsec_types}
use Rattle.plain.specs.ZoneData.{zone_type, zone_canonical}
use Rattle.plain.specs.declared.record.Record.{Record}
use Rattle.plain.specs.declared.zone_data.ZoneRecordData.{ZoneRecordData}
use Rattle.denial_nsec_data.specs.NsecData.{NsecData}
use Rattle.denial_chain_owners.specs.Soa.{chain_ttl, soa_ttls}
use Rattle.denial_chain_owners.specs.Zones.{spelled_among, spelled_as, zone_of}
use Rattle.denial_chain_owners.specs.declared.soa.SoaTtls.{SoaTtls}

-- a record of the chain: its owner and next name as they are spelled, and its bitmap
pub record ChainRecord : Type 0 where
  pub owner : Name
  pub class : ℕ
  pub ttl : ℕ
  pub next : Name
  pub types : List ℕ

-- a record of the chain whose names are borrowed
abbrev pub record_of : {N : Type 0} → (N → Name) → Record (Bor N) (NsecData (Bor N)) → ChainRecord
record_of name r = record {
  owner = name r.owner.now;
  class = r.class;
  ttl = r.ttl;
  next = name r.content.next_name.now;
  types = r.content.types;
}

-- the class of some records, which have one
abbrev pub class_of : {N D : Type 0} → List (Record N D) → ℕ
class_of [] = 0
class_of (r ∷ rs) = r.class

-- the TTL of a chain (RFC 9077, 3)
abbrev pub ttl_of : Option SoaTtls → ℕ
ttl_of None = 0
ttl_of (Some s) = chain_ttl s

-- The record of a name of the chain. Names are spelled as the first of their records, the last next name as the apex was
-- handed in.
abbrev pub nsec_record : {O N : Type 0} → (N → Name) → Name → Bool → List (Record N (ZoneRecordData O N)) → Name → ChainRecord
nsec_record name apex dnskey rs o =
    let z = zone_of name zone_type (zone_canonical name) apex rs in
    record {
      owner = spelled_among name rs o;
      class = class_of rs;
      ttl = ttl_of (soa_ttls name apex rs);
      next = spelled_as name apex rs (nsec_next z o);
      types = bitmap (nsec_types z dnskey o);
    }

-- the records of the chain: one for each name, in canonical order
abbrev pub nsec_chain : {O N : Type 0} → (N → Name) → Name → Bool → List (Record N (ZoneRecordData O N)) → List ChainRecord
nsec_chain name apex dnskey rs =
    map (nsec_record name apex dnskey rs) (nsec_names (zone_of name zone_type (zone_canonical name) apex rs))

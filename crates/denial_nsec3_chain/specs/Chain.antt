-- The NSEC3 records of a zone (RFC 5155, 7.1).
use Rattle.std.specs.Prelude.{ℕ, List, map, Option, Some, None}
use Rattle.definitions.specs.Name.{Name}
use Rattle.definitions.specs.Zone.{Zone}
use Rattle.definitions.specs.ZoneChain.{excludes, hashed_names, nsec3_next, nsec3_types}
use Rattle.plain.specs.ZoneData.{zone_type, zone_canonical}
use Rattle.plain.specs.declared.record.Record.{Record}
use Rattle.plain.specs.declared.zone_data.ZoneRecordData.{ZoneRecordData}
use Rattle.denial_nsec_data.specs.Hashed.{Nsec3Data, Nsec3paramData, nsec3param_with}
use Rattle.denial_nsec3_hash.specs.Hashing.{Answers, hash_by}
use Rattle.denial_nsec3_hash.specs.Configured.{parameters, parameter_ttl}
use Rattle.denial_nsec3_hash.specs.declared.config.GenerateNsec3Config.{GenerateNsec3Config}
use Rattle.denial_chain_owners.specs.Soa.{chain_ttl}
use Rattle.denial_chain_owners.specs.Zones.{zone_of}
use Rattle.denial_chain_owners.specs.declared.soa.SoaTtls.{SoaTtls}
use Rattle.denial_nsec3_chain.specs.Linked.{Making, nsec3_record}

-- the zone of records
abbrev pub zone_among : {O N : Type 0} → (N → Name) → Name → List (Record N (ZoneRecordData O N)) → Zone
zone_among name apex rs = zone_of name zone_type (zone_canonical name) apex rs

-- delegations without DS are left out
abbrev pub leaves_out : {S : Type 0} → GenerateNsec3Config S → Rattle.std.specs.Prelude.Bool
leaves_out c = excludes (parameters c)

-- how the records of a chain are made beside an SOA record
abbrev pub making : {S : Type 0} → GenerateNsec3Config S → SoaTtls → Making
making c s = record { params = c.params; dnskey = c.assume_dnskeys_will_be_added; ttl = chain_ttl s }

-- a record for each name of the chain, in order of hash
abbrev pub nsec3_chain : {O N S : Type 0} → (N → Name) → Name → Answers → GenerateNsec3Config S → List (Record N (ZoneRecordData O N)) → SoaTtls → List (Record Name Nsec3Data)
nsec3_chain name apex answers c rs s =
    let z = zone_among name apex rs in
    let hash = hash_by answers c.params in
    map (λ o. nsec3_record (making c s) apex (hash o) (nsec3_next hash z (leaves_out c) o) (nsec3_types z c.assume_dnskeys_will_be_added o))
    (hashed_names hash z (leaves_out c))

-- the NSEC3PARAM record, whose flags are 0 (RFC 5155, 4.1.2)
abbrev pub nsec3param_record : {S : Type 0} → Name → GenerateNsec3Config S → SoaTtls → Record Name Nsec3paramData
nsec3param_record apex c s = record {
  owner = apex;
  class = 1;
  ttl = parameter_ttl c.nsec3param_ttl_mode s.ttl s.minimum;
  content = nsec3param_with c.params.algorithm 0 c.params.iterations c.params.salt;
}

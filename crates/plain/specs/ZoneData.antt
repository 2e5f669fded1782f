-- The data of a zone's records: SOA, NS, and other types as octets.
use Rattle.std.specs.Prelude.{ℕ, Bool, true, false, List, if◌then◌else◌, nat_eq}
use Rattle.definitions.specs.Name.{Name}
use Rattle.names_rdata.specs.Reading.{Part, name_part, rest_part, limited}
use Rattle.plain.specs.Soa.{soa_octets, soa_canonical, soa_part}
use Rattle.plain.specs.Ns.{ns_octets, ns_canonical}
use Rattle.plain.specs.declared.zone_data.ZoneRecordData.{ZoneRecordData}
use Rattle.plain.specs.declared.zone_data.ZoneRecordData.TheVariants.{Soa, Ns, Unknown}

abbrev pub zone_type : {O N : Type 0} → ZoneRecordData O N → ℕ
zone_type (Soa s) = 6
zone_type (Ns d) = 2
zone_type (Unknown u) = u.rtype

abbrev pub zone_octets : {O N : Type 0} → (N → Name) → ZoneRecordData O N → List ℕ
zone_octets name (Soa s) = soa_octets name s
zone_octets name (Ns d) = ns_octets name d
zone_octets name (Unknown u) = u.octets

-- the octets of a zone's data in canonical form (RFC 4034, 6.2)
abbrev pub zone_canonical : {O N : Type 0} → (N → Name) → ZoneRecordData O N → List ℕ
zone_canonical name (Soa s) = soa_canonical name s
zone_canonical name (Ns d) = ns_canonical name d
zone_canonical name (Unknown u) = u.octets

-- whether a zone's data have names that a message may compress (RFC 1035, 3.3)
abbrev pub zone_compressible : {O N : Type 0} → ZoneRecordData O N → Bool
zone_compressible (Soa s) = true
zone_compressible (Ns d) = true
zone_compressible (Unknown u) = false

-- what the data of a type are made of
abbrev pub zone_part : ℕ → Part
zone_part t = if nat_eq t 6 then soa_part else (if nat_eq t 2 then name_part else limited rest_part)

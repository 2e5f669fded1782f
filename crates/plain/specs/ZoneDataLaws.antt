-- Lower case changes no length of data.
use Rattle.std.proofs.Common.{◌≡◌, refl, length}
use Rattle.definitions.specs.Name.{Name}
use Rattle.plain.specs.SoaLaws.{soa_as_long}
use Rattle.plain.specs.NsLaws.{ns_as_long}
use Rattle.plain.specs.ZoneData.{zone_octets, zone_canonical}
use Rattle.plain.specs.declared.zone_data.ZoneRecordData.{ZoneRecordData}
use Rattle.plain.specs.declared.zone_data.ZoneRecordData.TheVariants.{Soa, Ns, Unknown}

pub zone_as_long : {O N : Type 0} (name : N → Name) (d : ZoneRecordData O N) → length (zone_canonical name d) ≡ length (zone_octets name d)
zone_as_long name (Soa s) = soa_as_long name s
zone_as_long name (Ns d) = ns_as_long name d
zone_as_long name (Unknown u) = refl

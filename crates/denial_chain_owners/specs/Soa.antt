-- The SOA record of a zone, and the TTL of its chains (RFC 2308, 3; RFC 9077, 3).
use Rattle.std.specs.Prelude.{ℕ, List, [], ◌∷◌, filter, min, Option, Some, None}
use Rattle.std.specs.Option.{option_map}
use Rattle.definitions.specs.Name.{Name}
use Rattle.denial_rrsets.specs.Groups.{is_at}
use Rattle.plain.specs.ZoneData.{zone_type}
use Rattle.plain.specs.declared.record.Record.{Record}
use Rattle.plain.specs.declared.zone_data.ZoneRecordData.{ZoneRecordData}
use Rattle.plain.specs.declared.zone_data.ZoneRecordData.TheVariants as variant
use Rattle.denial_chain_owners.specs.declared.soa.SoaTtls.{SoaTtls}
use Rattle.denial_chain_owners.specs.declared.soa.Seen.{Seen}
use Rattle.denial_chain_owners.specs.declared.soa.Seen.TheVariants as seen

-- the minimum of SOA data; octets whose fields aren't known have none
abbrev pub minimum_of : {O N : Type 0} → ZoneRecordData O N → Option ℕ
minimum_of (variant.Soa s) = Some s.times.minimum
minimum_of (variant.Ns d) = None
minimum_of (variant.Unknown u) = None

-- the TTL of an SOA record and the minimum of its data
abbrev pub ttls_of : {O N : Type 0} → Record N (ZoneRecordData O N) → Option SoaTtls
ttls_of r = option_map (λ m. record { ttl = r.ttl; minimum = m }) (minimum_of r.content)

-- the TTL and the minimum of the only SOA record among some, if there is exactly one
abbrev pub ttls_of_one : {O N : Type 0} → List (Record N (ZoneRecordData O N)) → Option SoaTtls
ttls_of_one [] = None
ttls_of_one (r ∷ []) = ttls_of r
ttls_of_one (r ∷ s ∷ rs) = None

-- the TTL and the minimum of the one SOA record at the apex
abbrev pub soa_ttls : {O N : Type 0} → (N → Name) → Name → List (Record N (ZoneRecordData O N)) → Option SoaTtls
soa_ttls name apex rs = ttls_of_one (filter (is_at name zone_type apex 6) rs)

-- the TTL of a chain's records: the lesser of the SOA record's TTL and its minimum (RFC 9077, 3)
abbrev pub chain_ttl : SoaTtls → ℕ
chain_ttl s = min s.ttl s.minimum

-- what is known after one more SOA record
abbrev pub and_ttls : Seen → Option SoaTtls → Seen
and_ttls seen.Nothing (Some t) = seen.One t
and_ttls seen.Nothing None = seen.Unfit
and_ttls (seen.One t) o = seen.Unfit
and_ttls seen.Unfit o = seen.Unfit

-- what is known after SOA records, one behind the other
abbrev pub seen_from : {O N : Type 0} → Seen → List (Record N (ZoneRecordData O N)) → Seen
seen_from s [] = s
seen_from s (r ∷ rs) = seen_from (and_ttls s (ttls_of r)) rs

-- What the groups that are kept show of all records: the SOA record, and unequal TTLs.
use Rattle.std.proofs.Common.{◌≡◌, Bool, List, ap, ◌∙◌}
use Rattle.std.specs.List.{flat_map, list_any}
use Rattle.std.specs.declared.cmp.Ordering.{Ordering}
use Rattle.std.specs.Ordering.{nat_cmp}
use Rattle.std.specs.Cmp.Lexicographic.{slice_cmp}
use Rattle.definitions.specs.Name.{Name}
use Rattle.plain.specs.ZoneData.{zone_canonical, zone_type}
use Rattle.plain.specs.declared.record.Record.{Record}
use Rattle.plain.specs.declared.zone_data.ZoneRecordData.{ZoneRecordData}
use Rattle.denial_chain_owners.specs.Conditions.{IsOneClass, IsZoneOrder}
use Rattle.denial_chain_owners.specs.Kept.{kept_groups}
use Rattle.denial_chain_owners.specs.Soa.{soa_ttls, ttls_of_one}
use Rattle.denial_chain_owners.specs.Ttls.{has_unequal_ttls, unlike_ttls}
use Rattle.denial_rrsets.specs.Groups.{neighbours}
use Rattle.denial_chain_owners.proofs.SoaFound.{apex_records_kept}
use Rattle.denial_chain_owners.proofs.TtlPairs.{unequal_ttls_are}

module _ {O N : Type 0} (name : N → Name) (apex : Name) (excluding : Bool) (rs : List (Record N (ZoneRecordData O N))) (one : IsOneClass rs) (order : IsZoneOrder name rs) where
  abbrev by_data : ZoneRecordData O N → ZoneRecordData O N → Ordering
  by_data a b = slice_cmp nat_cmp (zone_canonical name a) (zone_canonical name b)

  pub soa_kept : (owners : List (List (Record N (ZoneRecordData O N)))) → owners ≡ kept_groups name zone_type (zone_canonical name) apex excluding rs
      → soa_ttls name apex (flat_map (λ g. g) owners) ≡ soa_ttls name apex rs
  soa_kept owners e =
      ap (λ gs. soa_ttls name apex (flat_map (λ g. g) gs)) e
      ∙ ap ttls_of_one (apex_records_kept name zone_type (zone_canonical name) by_data apex excluding rs one order)

  pub ttls_kept : (owners : List (List (Record N (ZoneRecordData O N)))) → owners ≡ kept_groups name zone_type (zone_canonical name) apex excluding rs
      → list_any (neighbours (unlike_ttls zone_type)) owners ≡ has_unequal_ttls name zone_type (zone_canonical name) apex excluding rs
  ttls_kept owners e =
      ap (list_any (neighbours (unlike_ttls zone_type))) e
      ∙ unequal_ttls_are name zone_type by_data (zone_canonical name) apex excluding rs one order

use Rattle.std.proofs.Common.{◌≡◌, drop}
use Rattle.std.specs.Prelude.{filter}
use Rattle.std.specs.List.{flat_map}
use Rattle.denial_rrsets.specs.Groups.{is_at}
use Rattle.plain.specs.ZoneData.{zone_type}
use Rattle.denial_chain_owners.specs.Soa.{seen_from}
use Rattle.denial_chain_owners.specs.declared.soa.Seen.TheVariants.{Nothing}
use Rattle.denial_chain_owners.proofs.soa.soa_ttls.Given as goal

abbrev pub invariant-loop-owner : goal.invariant-loop-owner
invariant-loop-owner g l =
    seen_from l.seen (filter (is_at g.N.Labels.name zone_type (g.N.Labels.name l.apex) 6) (flat_map (λ g. g) (drop l.owner-index l.owners)))
    ≡ seen_from Nothing (filter (is_at g.N.Labels.name zone_type (g.N.Labels.name l.apex) 6) (flat_map (λ g. g) l.owners))

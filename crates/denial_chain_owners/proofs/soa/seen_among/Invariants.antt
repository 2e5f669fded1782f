use Rattle.std.proofs.Common.{◌≡◌}
use Rattle.std.specs.Prelude.{filter}
use Rattle.denial_rrsets.specs.Groups.{is_at}
use Rattle.plain.specs.ZoneData.{zone_type}
use Rattle.denial_chain_owners.specs.Soa.{seen_from}
use Rattle.denial_chain_owners.proofs.soa.seen_among.Given as goal

abbrev pub invariant-loop-rr : goal.invariant-loop-rr
invariant-loop-rr g l =
    seen_from l.seen (filter (is_at g.N.Labels.name zone_type (g.N.Labels.name l.apex) 6) l.records)
    ≡ seen_from l.fn.seen (filter (is_at g.N.Labels.name zone_type (g.N.Labels.name l.apex) 6) l.fn.records)

use Rattle.std.proofs.Common.{◌∙◌, sym, ap}
use Rattle.std.specs.Prelude.{filter}
use Rattle.std.specs.List.{flat_map}
use Rattle.denial_rrsets.specs.Groups.{is_at}
use Rattle.plain.specs.ZoneData.{zone_type}
use Rattle.denial_chain_owners.specs.Soa.{seen_from}
use Rattle.denial_chain_owners.specs.declared.soa.Seen.TheVariants.{Nothing}
use Rattle.denial_chain_owners.proofs.SoaFound.{seen_all, seen_step, shown}
use Rattle.denial_chain_owners.proofs.soa.soa_ttls.Goals as goal

pub loop-owner-preserved : goal.loop-owner-preserved
loop-owner-preserved g c =
    let p = is_at g.N.Labels.name zone_type (g.N.Labels.name c.args.apex.now) 6 in
    seen_step p c.args.owners.now c.loop-owner.owner-index c.owner-item.result c.loop-owner.seen c.seen_among-seen.result (seen_from Nothing (filter p (flat_map (λ g. g) c.args.owners.now)))
    c.loop-owner-test.true c.owner-item.is (c.seen_among-seen.ensures ∙ ap (λ xs. seen_from c.loop-owner.seen (filter p xs)) c.records.ensures) c.loop-owner.invariant

pub returns-in-One : goal.returns-in-One
returns-in-One g c =
    let p = is_at g.N.Labels.name zone_type (g.N.Labels.name c.args.apex.now) 6 in
    sym (ap shown c.in-One.is) ∙ seen_all p c.args.owners.now c.loop-owner.owner-index c.loop-owner.seen c.loop-owner-test.false c.loop-owner.invariant

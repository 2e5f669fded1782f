use Rattle.plain.specs.Records.{record_canonical_cmp}
use Rattle.denial_sorted.proofs.Orders.{record_total}
use Rattle.denial_chain_owners.proofs.Climbs.{climbs_iff}
use Rattle.denial_chain_owners.proofs.conditions.is_canonical_order.Goals as goal

pub returns : goal.returns
returns g c =
    climbs_iff (record_canonical_cmp g.N.Labels.name g.D.RecordData.type_of g.D.CanonicalOrd.canonical)
    (record_total g.N.Labels.name g.D.RecordData.type_of g.D.CanonicalOrd.canonical c.requires)
    c.ascend.result c.args.records.now c.ascend.ensures

use Rattle.std.proofs.Common.{rules}
use Rattle.plain.specs.Records.{record_canonical_cmp}
use Rattle.denial_sorted.proofs.Orders.{record_total}
use Rattle.denial_sorted.proofs.Putting.{placed_by_closure}
use Rattle.denial_sorted.proofs.sorted.place_for.Goals as goal

pub returns : goal.returns
returns g c =
    let by = record_canonical_cmp g.N.Labels.name g.D.RecordData.type_of g.D.CanonicalOrd.canonical in
    let o = record_total g.N.Labels.name g.D.RecordData.type_of g.D.CanonicalOrd.canonical c.requires.total in
    placed_by_closure by o c.args.rr.now c.args.records.now c.requires.order (λ b r f' k. search rules) c.binary_search_by.result c.binary_search_by.ensures.bound c.binary_search_by.ensures.position

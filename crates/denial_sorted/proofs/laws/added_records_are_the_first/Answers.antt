use Rattle.plain.specs.Records.{record_canonical_cmp}
use Rattle.denial_sorted.proofs.Orders.{record_total}
use Rattle.denial_sorted.proofs.Putting.{adds_firsts}
use Rattle.denial_sorted.proofs.laws.added_records_are_the_first.Goals as goal

pub returns : goal.returns
returns g c = λ total held records h.
    let by = record_canonical_cmp g.N.Labels.name g.D.RecordData.type_of g.D.CanonicalOrd.canonical in
    adds_firsts by (record_total g.N.Labels.name g.D.RecordData.type_of g.D.CanonicalOrd.canonical total) held records h

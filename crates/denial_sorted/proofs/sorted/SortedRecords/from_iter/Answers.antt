use Rattle.std.proofs.Common.{ap, ◌∙◌}
use Rattle.plain.specs.Records.{record_canonical_cmp}
use Rattle.definitions.specs.Sorting.{sort_by}
use Rattle.denial_sorted.proofs.sorted.SortedRecords.from_iter.Goals as goal

pub returns : goal.returns
returns g c =
    let by = record_canonical_cmp g.N.Labels.name g.D.RecordData.type_of g.D.CanonicalOrd.canonical in
    let ran = c.in_ok-records.ensures.ran in
    let end = ran.3.2 tt in
    (ran.0, ran.1, ran.2, (end.0, (ran.3.0, ran.3.1, end.1)), c.in_ok-sorted.ensures ∙ ap (sort_by by) ran.4.0)

use Rattle.std.proofs.Common.{ap, ◌∙◌}
use Rattle.plain.specs.Records.{record_canonical_cmp}
use Rattle.denial_rrsets.specs.Groups.{of_one_owner}
use Rattle.denial_rrsets.specs.Starts.{starts_in}
use Rattle.denial_sorted.proofs.Keyed.{same_sorted}
use Rattle.denial_sorted.proofs.Orders.{record_total}
use Rattle.denial_sorted.proofs.Putting.{sort_rises}
use Rattle.denial_sorted.proofs.sorted.SortedRecords.from_vec.Goals as goal

pub invariant_of-result : goal.invariant_of-result
invariant_of-result g c =
    let by = record_canonical_cmp g.N.Labels.name g.D.RecordData.type_of g.D.CanonicalOrd.canonical in
    let o = record_total g.N.Labels.name g.D.RecordData.type_of g.D.CanonicalOrd.canonical c.requires in (
      c.requires,
      rw c.in_ok-order_all.ensures.ok (sort_rises by o c.in_ok-records.records.items),
      c.in_ok-starts.ensures ∙ ap (starts_in (of_one_owner g.N.Labels.name)) c.deref.ensures.value,
    )

pub returns : goal.returns
returns g c =
    let by = record_canonical_cmp g.N.Labels.name g.D.RecordData.type_of g.D.CanonicalOrd.canonical in
    let o = record_total g.N.Labels.name g.D.RecordData.type_of g.D.CanonicalOrd.canonical c.requires in
    c.in_ok-order_all.ensures.ok ∙ same_sorted by o c.args.records.items c.in_ok-records.records.items c.in_ok-records.ensures

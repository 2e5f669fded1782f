use Rattle.std.proofs.Common.{ap, sym, ◌∙◌}
use Rattle.plain.specs.Records.{record_canonical_cmp}
use Rattle.denial_rrsets.specs.Groups.{of_one_owner}
use Rattle.denial_rrsets.specs.Starts.{starts_in}
use Rattle.denial_sorted.proofs.Orders.{record_total}
use Rattle.denial_sorted.proofs.Putting.{rising_none}
use Rattle.denial_sorted.proofs.sorted.SortedRecords.new.Goals as goal

pub invariant_of-result : goal.invariant_of-result
invariant_of-result g c =
    let by = record_canonical_cmp g.N.Labels.name g.D.RecordData.type_of g.D.CanonicalOrd.canonical in
    let o = record_total g.N.Labels.name g.D.RecordData.type_of g.D.CanonicalOrd.canonical c.requires in (
      c.requires,
      rw c.new.ensures.items (rising_none by o),
      c.new-2.ensures.items ∙ ap (starts_in (of_one_owner g.N.Labels.name)) (sym c.new.ensures.items),
    )

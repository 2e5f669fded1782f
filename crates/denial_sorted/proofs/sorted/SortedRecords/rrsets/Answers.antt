use Rattle.std.proofs.Common.{sym, ◌∙◌}
use Rattle.denial_rrsets.specs.Groups.{of_one_set}
use Rattle.denial_sorted.proofs.Parted.{partition_at, sets_parted}
use Rattle.denial_sorted.proofs.sorted.SortedRecords.rrsets.Goals as goal

pub returns-clause-partition : goal.returns-clause-partition
returns-clause-partition g c =
    let held = c.self.inside.records.items in
    let given = sym (c.indexed.ensures ∙ c.deref.ensures.value) in
    partition_at (of_one_set g.N.Labels.name g.D.RecordData.type_of) held c.args.self.now c.indexed.result c.self.view_is given
    (sets_parted g.N.Labels.name g.D.RecordData.type_of g.D.CanonicalOrd.canonical held c.self.invariant.1)

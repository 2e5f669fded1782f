use Rattle.std.proofs.Common.{true, ◌≤◌, List, length, subst}
use Rattle.std.specs.Result.{is_ok}
use Rattle.plain.specs.Records.{record_canonical_cmp}
use Rattle.plain.specs.declared.record.Record.{Record}
use Rattle.denial_sorted.proofs.Apart.{apart_at}
use Rattle.denial_sorted.proofs.Orders.{record_total}
use Rattle.denial_sorted.proofs.Putting.{insert_rises}
use Rattle.denial_sorted.proofs.sorted.SortedRecords.insert.Goals as goal

pub put_at-requires-clause-within : goal.put_at-requires-clause-within
put_at-requires-clause-within g c = let P : List (Record g.row.N.Denot g.row.D.Denot) → Type 0 = λ rs. c.in-Err.place ≤ length rs in subst P c.deref.ensures.value c.in-Err.ensures.1

pub put_at-requires-clause-apart : goal.put_at-requires-clause-apart
put_at-requires-clause-apart g c =
    let by = record_canonical_cmp g.N.Labels.name g.D.RecordData.type_of g.D.CanonicalOrd.canonical in
    let o = record_total g.N.Labels.name g.D.RecordData.type_of g.D.CanonicalOrd.canonical c.self.invariant.0 in
    let P : List (Record g.row.N.Denot g.row.D.Denot) → Type 0 = λ rs. c.in-Err.place ≤ length rs in
    let within = subst P c.deref.ensures.value c.in-Err.ensures.1 in
    apart_at g.N.Labels.name g.D.RecordData.type_of g.D.CanonicalOrd.canonical c.self.inside.records.items c.in-Err.place c.args.rr within
    (insert_rises by o c.args.rr c.self.inside.records.items c.deref.result.now c.in-Err.place c.deref.ensures.value c.in-Err.ensures.2 c.self.invariant.1 true)

pub put_at-requires-clause-starts : goal.put_at-requires-clause-starts
put_at-requires-clause-starts g c = c.self.invariant.2

pub invariant_of-self : goal.invariant_of-self
invariant_of-self g c =
    let by = record_canonical_cmp g.N.Labels.name g.D.RecordData.type_of g.D.CanonicalOrd.canonical in
    let o = record_total g.N.Labels.name g.D.RecordData.type_of g.D.CanonicalOrd.canonical c.self.invariant.0 in
    let order = insert_rises by o c.args.rr c.self.inside.records.items c.deref.result.now c.in-Err.place c.deref.ensures.value c.in-Err.ensures.2 c.self.invariant.1 (is_ok c.put_at.result) in
    (c.self.invariant.0, rw c.put_at.ensures.items order, c.put_at.ensures.starts)

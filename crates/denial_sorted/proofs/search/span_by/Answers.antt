use Rattle.std.proofs.Common.{get_or, sym, refl, arith}
use Rattle.denial_sorted.proofs.Spanned.{nowhere_at_end, nowhere_there, search_place, spans_there}
use Rattle.denial_sorted.proofs.search.span_by.Goals as goal

pub returns-then-at-starts : goal.returns-then-at-starts
returns-then-at-starts g c = nowhere_at_end g.N.Labels.name g.D.RecordData.type_of g.D.CanonicalOrd.canonical c.args.class (g.O.Labels.name c.args.owner.now) c.args.records.now c.args.starts.now c.requires.starts c.count_before-at.result (omega arith) c.count_before-at.ensures.1

pub offset_bounds-records-start : goal.offset_bounds-records-start
offset_bounds-records-start g c =
    let p = search_place g.N.Labels.name g.D.RecordData.type_of g.D.CanonicalOrd.canonical c.args.class (g.O.Labels.name c.args.owner.now) c.args.records.now c.args.starts.now c.requires.starts c.count_before-at.result (omega arith) in
    omega arith

pub bounds-records-start : goal.bounds-records-start
bounds-records-start g c = search_place g.N.Labels.name g.D.RecordData.type_of g.D.CanonicalOrd.canonical c.args.class (g.O.Labels.name c.args.owner.now) c.args.records.now c.args.starts.now c.requires.starts c.count_before-at.result (omega arith)

pub returns-then-not-is_owned : goal.returns-then-not-is_owned
returns-then-not-is_owned g c =
    nowhere_there g.N.Labels.name g.D.RecordData.type_of g.D.CanonicalOrd.canonical c.args.class (g.O.Labels.name c.args.owner.now) c.args.records.now c.args.starts.now c.requires.starts c.requires.order c.count_before-at.result (omega arith) c.count_before-at.ensures.1 c.count_before-at.ensures.2 c.index-records-start.result c.index-records-start.is (sym c.if-not-is_owned.ensures)

pub returns : goal.returns
returns g c =
    spans_there g.N.Labels.name g.D.RecordData.type_of g.D.CanonicalOrd.canonical c.args.class (g.O.Labels.name c.args.owner.now) c.args.records.now c.args.starts.now c.requires.starts c.requires.order c.count_before-at.result (omega arith) c.count_before-at.ensures.1 c.index-records-start.result c.index-records-start.is (sym c.if-not-is_owned.ensures) (get_or c.args.starts.now c.count_before-at.result 0) c.place_or-end.result refl c.place_or-end.ensures

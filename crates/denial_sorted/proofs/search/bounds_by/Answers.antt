use Rattle.std.proofs.Common.{arith, sym}
use Rattle.denial_sorted.proofs.Spanned.{search_begins, search_down, search_place, search_up}
use Rattle.denial_sorted.proofs.search.bounds_by.Goals as goal

pub returns-then-guess-starts : goal.returns-then-guess-starts
returns-then-guess-starts g c =
    let b = search_begins g.N.Labels.name g.D.RecordData.type_of g.D.CanonicalOrd.canonical c.args.class (g.O.Labels.name c.args.owner.now) c.args.records.now c.args.starts.now c.requires.starts in
    (omega arith, omega arith, b.0, b.1)

pub offset_bounds-records-starts : goal.offset_bounds-records-starts
offset_bounds-records-starts g c =
    let p = search_place g.N.Labels.name g.D.RecordData.type_of g.D.CanonicalOrd.canonical c.args.class (g.O.Labels.name c.args.owner.now) c.args.records.now c.args.starts.now c.requires.starts c.args.guess (omega arith) in
    omega arith

pub bounds-records-starts : goal.bounds-records-starts
bounds-records-starts g c =
    search_place g.N.Labels.name g.D.RecordData.type_of g.D.CanonicalOrd.canonical c.args.class (g.O.Labels.name c.args.owner.now) c.args.records.now c.args.starts.now c.requires.starts c.args.guess (omega arith)

pub returns-then-is_before : goal.returns-then-is_before
returns-then-is_before g c =
    let b = search_begins g.N.Labels.name g.D.RecordData.type_of g.D.CanonicalOrd.canonical c.args.class (g.O.Labels.name c.args.owner.now) c.args.records.now c.args.starts.now c.requires.starts in
    let up = search_up g.N.Labels.name g.D.RecordData.type_of g.D.CanonicalOrd.canonical c.args.class (g.O.Labels.name c.args.owner.now) c.args.records.now c.args.starts.now c.requires.starts c.requires.order c.args.guess (omega arith) c.index-records-starts.result c.index-records-starts.is (sym c.if-is_before.ensures) in
    (omega arith, omega arith, up, b.1)

pub returns : goal.returns
returns g c =
    let b = search_begins g.N.Labels.name g.D.RecordData.type_of g.D.CanonicalOrd.canonical c.args.class (g.O.Labels.name c.args.owner.now) c.args.records.now c.args.starts.now c.requires.starts in
    let down = search_down g.N.Labels.name g.D.RecordData.type_of g.D.CanonicalOrd.canonical c.args.class (g.O.Labels.name c.args.owner.now) c.args.records.now c.args.starts.now c.requires.starts c.requires.order c.args.guess (omega arith) c.index-records-starts.result c.index-records-starts.is (sym c.if-is_before.ensures) in
    (omega arith, omega arith, b.0, down)

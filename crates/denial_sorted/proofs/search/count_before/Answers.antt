use Rattle.std.proofs.Common.{◌≡◌, ℕ, ◌<◌, false, arith, sym, subst, drop, get_or, length}
use Rattle.std.specs.List.{AllByRecursion}
use Rattle.denial_sorted.specs.Owned.{is_before}
use Rattle.denial_sorted.proofs.Spanned.{search_down, search_place, search_up}
use Rattle.denial_sorted.proofs.search.count_before.Goals as goal

pub loop-low-init : goal.loop-low-init
loop-low-init g c =
    let b = c.bounds_by-low.ensures in
    record { order = b.0; within = b.1; onward = omega arith; before = b.2; behind = b.3 }

pub offset_bounds-records-starts : goal.offset_bounds-records-starts
offset_bounds-records-starts g c =
    let p = search_place g.N.Labels.name g.D.RecordData.type_of g.D.CanonicalOrd.canonical c.args.class (g.O.Labels.name c.args.owner.now) c.args.records.now c.args.starts.now c.requires.starts c.probe-middle.result (omega arith) in
    omega arith

pub bounds-records-starts : goal.bounds-records-starts
bounds-records-starts g c =
    search_place g.N.Labels.name g.D.RecordData.type_of g.D.CanonicalOrd.canonical c.args.class (g.O.Labels.name c.args.owner.now) c.args.records.now c.args.starts.now c.requires.starts c.probe-middle.result (omega arith)

pub loop-low-preserved-then-is_before : goal.loop-low-preserved-then-is_before
loop-low-preserved-then-is_before g c =
    let m = c.probe-middle.result in
    let l : m < length c.args.starts.now = omega arith in
    record {
      order = omega arith;
      within = omega arith;
      onward = c.loop-low.invariant.onward;
      before = search_up g.N.Labels.name g.D.RecordData.type_of g.D.CanonicalOrd.canonical c.args.class (g.O.Labels.name c.args.owner.now) c.args.records.now c.args.starts.now c.requires.starts c.requires.order m l c.index-records-starts.result c.index-records-starts.is (sym c.if-is_before.ensures);
      behind = c.loop-low.invariant.behind;
    }

pub loop-low-preserved : goal.loop-low-preserved
loop-low-preserved g c =
    let m = c.probe-middle.result in
    let l : m < length c.args.starts.now = omega arith in
    record {
      order = omega arith;
      within = omega arith;
      onward = omega (arith, c.loop-low.invariant.onward);
      before = c.loop-low.invariant.before;
      behind = search_down g.N.Labels.name g.D.RecordData.type_of g.D.CanonicalOrd.canonical c.args.class (g.O.Labels.name c.args.owner.now) c.args.records.now c.args.starts.now c.requires.starts c.requires.order m l c.index-records-starts.result c.index-records-starts.is (sym c.if-is_before.ensures);
    }

pub returns : goal.returns
returns g c =
    let e : c.loop-low.high ≡ c.loop-low.low = omega (arith, c.loop-low.invariant.order, c.loop-low-test.false) in
    let P : ℕ → Type 0 = λ k. AllByRecursion (λ r. is_before g.N.Labels.name c.args.class (g.O.Labels.name c.args.owner.now) r ≡ false) (drop (get_or c.args.starts.now k (length c.args.records.now)) c.args.records.now) in
    (omega arith, c.loop-low.invariant.before, subst P e c.loop-low.invariant.behind)

use Rattle.std.proofs.Common.{None, ◌≤◌, length, vec_capacity, ap, ◌∙◌, arith, length-append}
use Rattle.plain.specs.Records.{record_canonical_cmp}
use Rattle.definitions.specs.Sorting.{sort_by, put_all_by}
use Rattle.denial_rrsets.specs.Groups.{of_one_owner}
use Rattle.denial_rrsets.specs.Starts.{starts_in}
use Rattle.denial_sorted.proofs.Keyed.{same_added}
use Rattle.denial_sorted.proofs.Moved.{few_starts}
use Rattle.denial_sorted.proofs.Orders.{record_total}
use Rattle.denial_sorted.proofs.Putting.{sort_few, sort_rises, sorted_behind}
use Rattle.denial_sorted.proofs.sorted.add_all.Goals as goal

pub returns-clause-ok : goal.returns-clause-ok
returns-clause-ok g c =
    let by = record_canonical_cmp g.N.Labels.name g.D.RecordData.type_of g.D.CanonicalOrd.canonical in
    let o = record_total g.N.Labels.name g.D.RecordData.type_of g.D.CanonicalOrd.canonical c.requires.total in
    let ran = c.in_ok-handed.ensures.ran in
    let end = ran.3.2 tt in
    let held = c.args.held.now.items in
    let joined = c.in_ok-append.ensures.items in
    let items = c.in_default.ensures.ok ∙ ap (sort_by by) joined ∙ sorted_behind by o held c.in_ok-more.more.items c.requires.order
    ∙ same_added by o held c.in_ok-handed.handed.items c.in_ok-more.more.items c.requires.order c.in_ok-more.ensures ∙ ap (put_all_by by held) ran.4.0 in
    (ran.0, ran.1, ran.2, (end.0, (ran.3.0, ran.3.1, end.1)), items)

pub returns-clause-order : goal.returns-clause-order
returns-clause-order g c =
    let by = record_canonical_cmp g.N.Labels.name g.D.RecordData.type_of g.D.CanonicalOrd.canonical in
    let o = record_total g.N.Labels.name g.D.RecordData.type_of g.D.CanonicalOrd.canonical c.requires.total in
    rw c.in_default.ensures.ok (sort_rises by o c.append.new.self.items)

pub overflow_sub-room : goal.overflow_sub-room
overflow_sub-room g c =
    let few = few_starts (of_one_owner g.N.Labels.name) None 0 c.args.held.now.items in
    let same = ap length c.requires.starts in
    omega (arith, c.args.held.now.ok.0, c.args.starts.now.ok.0)

pub fill-requires : goal.fill-requires
fill-requires g c =
    let by = record_canonical_cmp g.N.Labels.name g.D.RecordData.type_of g.D.CanonicalOrd.canonical in
    let alike = of_one_owner g.N.Labels.name in
    let joined = c.append.new.self.items in
    let now = c.deref.ensures.value ∙ c.in_default.ensures.ok in
    let starts = few_starts alike None 0 (sort_by by joined) in
    let few = sort_few by joined in
    let size = ap length c.in_ok-append.ensures.items in
    let both = length-append c.args.held.now.items c.in_ok-more.more.items in
    let there = ap (λ rs. length (starts_in alike rs)) now in
    let before = few_starts alike None 0 c.args.held.now.items in
    let same = ap length c.requires.starts in
    let room : length (starts_in alike c.deref.result.now) ≤ vec_capacity c.reserve.new.self = omega (arith, c.args.held.now.ok.0, c.args.starts.now.ok.0, c.in_ok-more.more.ok.0, c.in_ok-reserve.ensures.ok, c.reserve.ensures.len) in
    room

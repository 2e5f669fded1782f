use Rattle.std.proofs.Common.{Option, Result, ap, subst, sym, ◌∙◌}
use Rattle.std.specs.Prelude.{◌≡◌, [], IfErr, MatchOption}
use Rattle.definitions.specs.Name.{Name, strictly_above}
use Rattle.resolution_walk.specs.Between.{AreUncut, AreUncutBelow, LiesBetween}
use Rattle.resolution_walk.specs.Judged.{IsUncut, counts_in, counts_of}
use Rattle.resolution_walk.specs.Query.{Query}
use Rattle.resolution_walk.specs.Wanted.{IsParent}
use Rattle.resolution_walk.specs.declared.ending.JudgedHop.{JudgedHop}
use Rattle.resolution_walk.specs.declared.ending.Uncut.{Uncut}
use Rattle.resolution_walk.proofs.Hashed.{no_more, same_counts, then_counts}
use Rattle.resolution_walk.proofs.Stopping.{judged_in, none_at_root, none_down, reached, uncut_in}
use Rattle.resolution_walk.proofs.names_between.+search_down_to.Goals as goal

pub returns-then-not-is_above : goal.returns-then-not-is_above
returns-then-not-is_above g t c =
    let e = c.args.evidence.now in
    let q = c.args.query.now in
    let n = c.args.name.now in
    let down = none_down e q n c.args.counts (ap (λ (x : Query). strictly_above x.zone n) (sym c.query.view_is) ∙ sym c.is_above.ensures ∙ c.if-not-is_above.true) in
    record { stops = tt; counted = tt; uncut = down; hashed = no_more _ c.args.counts }

pub returns-in-None : goal.returns-in-None
returns-in-None g t c =
    let e = c.args.evidence.now in
    let q = c.args.query.now in
    let n = c.args.name.now in
    let root = subst (λ (o : Option Name). MatchOption o (n ≡ []) (IsParent n)) c.in-None.is c.in_ok-above.ensures in
    let down = none_at_root e q n c.args.counts root in
    record { stops = tt; counted = tt; uncut = down; hashed = no_more _ c.args.counts }

pub returns-in-Throughout : goal.returns-in-Throughout
returns-in-Throughout g t c =
    let e = c.args.evidence.now in
    let q = c.args.query.now in
    let n = c.args.name.now in
    let parent = c.in-Some.parent in
    let before = c.args.counts in
    let sums = c.in-Throughout.sums in
    let above : IsUncut e q before parent c.in-Err.uncut = subst (λ (x : Result JudgedHop Uncut). IfErr x (IsUncut e q before parent)) c.in-Err.is c.in_ok-way.ensures.uncut in
    let down : AreUncutBelow e q.asked q.zone q.ds before sums = subst (λ (x : Uncut). IsUncut e q before parent x) c.in-Throughout.is above in
    let uncut = c.in-Err.uncut in
    let way = c.in_ok-way.way in
    let sums_on = same_counts _ _ before (counts_in way) sums (sym (ap counts_in c.in-Err.is ∙ ap counts_of c.in-Throughout.is)) c.in_ok-way.ensures.hashed in
    record { stops = tt; counted = tt; uncut = down; hashed = sums_on }

pub at_name-requires : goal.at_name-requires
at_name-requires g t c =
    let e = c.args.evidence.now in
    let q = c.args.query.now in
    let n = c.args.name.now in
    let parent = c.in-Some.parent in
    let before = c.args.counts in
    let sums = c.in-SoFar.sums in
    let of : IsParent n parent = subst (λ (o : Option Name). MatchOption o (n ≡ []) (IsParent n)) c.in-Some.is c.in_ok-above.ensures in
    let above : IsUncut e q before parent c.in-Err.uncut = subst (λ (x : Result JudgedHop Uncut). IfErr x (IsUncut e q before parent)) c.in-Err.is c.in_ok-way.ensures.uncut in
    let down : AreUncut e q.asked q.zone q.ds before parent sums = subst (λ (x : Uncut). IsUncut e q before parent x) c.in-SoFar.is above in
    let lies : LiesBetween q.zone q.asked n = (ap (λ (x : Query). strictly_above x.zone n) (sym c.query.view_is) ∙ sym c.is_above.ensures ∙ c.if-not-is_above.false, c.requires.above) in
    reached e q n parent before sums lies of.is down c.requires.untold

pub returns : goal.returns
returns g t c =
    let e = c.args.evidence.now in
    let q = c.args.query.now in
    let n = c.args.name.now in
    let parent = c.in-Some.parent in
    let before = c.args.counts in
    let sums = c.in-SoFar.sums in
    let r = c.at_name.result in
    let of : IsParent n parent = subst (λ (o : Option Name). MatchOption o (n ≡ []) (IsParent n)) c.in-Some.is c.in_ok-above.ensures in
    let above : IsUncut e q before parent c.in-Err.uncut = subst (λ (x : Result JudgedHop Uncut). IfErr x (IsUncut e q before parent)) c.in-Err.is c.in_ok-way.ensures.uncut in
    let down : AreUncut e q.asked q.zone q.ds before parent sums = subst (λ (x : Uncut). IsUncut e q before parent x) c.in-SoFar.is above in
    let lies : LiesBetween q.zone q.asked n = (ap (λ (x : Query). strictly_above x.zone n) (sym c.query.view_is) ∙ sym c.is_above.ensures ∙ c.if-not-is_above.false, c.requires.above) in
    let uncut = c.in-Err.uncut in
    let way = c.in_ok-way.way in
    let sums_on = same_counts _ _ before (counts_in way) sums (sym (ap counts_in c.in-Err.is ∙ ap counts_of c.in-SoFar.is)) c.in_ok-way.ensures.hashed in
    record {
      stops = c.at_name.ensures.stops;
      counted = judged_in e q n parent before sums lies of.is down r c.at_name.ensures.judged;
      uncut = uncut_in e q n parent before sums lies of.is down r c.at_name.ensures.judged;
      hashed = then_counts _ _ before r counts_in _ sums sums_on c.at_name.ensures.hashed;
    }

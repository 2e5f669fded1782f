use Rattle.std.proofs.Common.{ap, arith, Result, subst, sym, ◌∙◌}
use Rattle.std.specs.Prelude.{MatchResult}
use Rattle.std.specs.Global.{Vec}
use Rattle.definitions.specs.Name.{Name}
use Rattle.messages.specs.Questions.{asked_of}
use Rattle.resolution_walk.specs.Stopping.{EndsHere, IsLed, counts_at}
use Rattle.resolution_walk.specs.declared.ending.End.{End}
use Rattle.resolution_walk.specs.declared.ending.Target.{Target}
use Rattle.evidence_laws.proofs.Hashed.{then_counted}
use Rattle.resolution_walk.proofs.Hashed.{same_counts}
use Rattle.resolution_walk.proofs.Stopping.{walk_stops, walk_stops_led, walk_stops_many}
use Rattle.resolution_walk.proofs.walk.+follow.Goals as goal

pub returns-in-Err : goal.returns-in-Err
returns-in-Err g t c =
    let e = c.args.evidence.now in
    let asked = asked_of c.args.question in
    let names = c.args.trail.through.items in
    let before = c.args.trail.counts in
    let cuts = c.args.left.cuts in
    let aliases = c.args.left.aliases in
    let end = c.in-Err.end in
    let kept = c.walk_with.ensures in
    let through = ap (λ (v : Vec Name). v.items) kept.through in
    let here : EndsHere e asked cuts before end =
    subst (λ (r : Result Target End). MatchResult r (IsLed e asked cuts before) (EndsHere e asked cuts before)) c.in-Err.is c.in_ok-end.ensures.stops in
    record {
      stops = walk_stops e asked cuts aliases names before end c.walk_with.result (here aliases) kept.ending through kept.counts kept.lasts;
      hashed = same_counts _ _ before (counts_at c.in_ok-end.end) _ (kept.counts ∙ sym (ap counts_at c.in-Err.is)) c.in_ok-end.ensures.hashed;
    }

pub returns-then-left-eq0 : goal.returns-then-left-eq0
returns-then-left-eq0 g t c =
    let e = c.args.evidence.now in
    let asked = asked_of c.args.question in
    let names = c.args.trail.through.items in
    let before = c.args.trail.counts in
    let cuts = c.args.left.cuts in
    let aliases = c.args.left.aliases in
    let target = c.in-Ok.target in
    let kept = c.too_many_aliases.ensures in
    let through = ap (λ (v : Vec Name). v.items) kept.through in
    let led : IsLed e asked cuts before target =
    subst (λ (r : Result Target End). MatchResult r (IsLed e asked cuts before) (EndsHere e asked cuts before)) c.in-Ok.is c.in_ok-end.ensures.stops in
    record {
      stops = walk_stops_many e asked cuts aliases names before target c.too_many_aliases.result c.if-left-eq0.true led kept.ending through kept.counts;
      hashed = same_counts _ _ before (counts_at c.in_ok-end.end) _ (kept.counts ∙ sym (ap counts_at c.in-Ok.is)) c.in_ok-end.ensures.hashed;
    }

pub returns : goal.returns
returns g t c =
    let e = c.args.evidence.now in
    let asked = asked_of c.args.question in
    let names = c.args.trail.through.items in
    let before = c.args.trail.counts in
    let cuts = c.args.left.cuts in
    let aliases = c.args.left.aliases in
    let target = c.in-Ok.target in
    let longer = c.in_ok-with_name.field-0.items in
    let walk = c.in_ok-walk.walk in
    let kept = c.walk_after_alias.ensures in
    let through = ap (λ (v : Vec Name). v.items) kept.through in
    let led : IsLed e asked cuts before target =
    subst (λ (r : Result Target End). MatchResult r (IsLed e asked cuts before) (EndsHere e asked cuts before)) c.in-Ok.is c.in_ok-end.ensures.stops in
    let first = same_counts _ _ before (counts_at c.in_ok-end.end) target.counts (sym (ap counts_at c.in-Ok.is)) c.in_ok-end.ensures.hashed in
    record {
      stops = walk_stops_led e asked cuts aliases names before target longer walk c.walk_after_alias.result (omega (arith, c.if-left-eq0.false)) led c.in_ok-with_name.ensures c.in_ok-walk.ensures.stops kept.ending through kept.counts kept.lasts;
      hashed = same_counts _ _ before walk.counts _ kept.counts (then_counted _ _ _ _ _ _ first c.in_ok-walk.ensures.hashed);
    }

use Rattle.std.proofs.Common.{◌≡◌, ap, List, [], subst, sym, ◌∙◌}
use Rattle.std.specs.Global.{Vec}
use Rattle.definitions.specs.Name.{Name}
use Rattle.messages.specs.Message.{Asked}
use Rattle.messages.specs.Questions.{asked_of}
use Rattle.evidence_laws.specs.Counted.{no_counts}
use Rattle.evidence_laws.specs.Counts.{Counts}
use Rattle.resolution_walk.specs.Ended.{said_of, validity_said}
use Rattle.resolution_walk.specs.Stopping.{IsStopped, StopsWithin}
use Rattle.resolution_walk.specs.declared.ending.Ending.{Ending}
use Rattle.resolution_walk.proofs.Hashed.{from_same, same_counts}
use Rattle.resolution_walk.proofs.Stopping.{stops_within}
use Rattle.resolution_walk.proofs.Truly.{walked_so}
use Rattle.resolution_walk.proofs.Walked.{lasts_if_said, walked}
use Rattle.resolution_walk.proofs.walk.resolve.Goals as goal

pub returns : goal.returns
returns g c =
    let e = c.args.evidence.now in
    let asked = asked_of c.args.question.now in
    let limits = c.args.limits in
    let cuts = limits.cuts in
    let aliases = limits.aliases in
    let copy = asked_of c.in_ok-asked.asked in
    let walk = c.in_ok-walk.walk in
    let names = walk.through.items in
    let less = c.within.result in
    let fewer = c.within.ensures in
    let w = c.validity_if_said.result in
    let kept = c.validity_if_said.ensures in
    let through = ap (λ (v : Vec Name). v.items) kept.through ∙ ap (λ (v : Vec Name). v.items) fewer.through in
    let by_names : IsStopped e copy cuts aliases [] names c.none.result walk.ending walk.counts walk.validity =
    subst (λ (ns : List Name). IsStopped e copy cuts aliases ns names c.none.result walk.ending walk.counts walk.validity) c.new.ensures.items c.in_ok-walk.ensures.stops in
    let by_counts : IsStopped e copy cuts aliases [] names no_counts walk.ending walk.counts walk.validity =
    subst (λ (n : Counts). IsStopped e copy cuts aliases [] names n walk.ending walk.counts walk.validity) c.none.ensures by_names in
    let stops : IsStopped e asked cuts aliases [] names no_counts walk.ending walk.counts walk.validity =
    subst (λ (q : Asked). IsStopped e q cuts aliases [] names no_counts walk.ending walk.counts walk.validity) c.in_ok-asked.ensures by_counts in
    let lasts : w.validity ≡ validity_said (said_of w.ending) walk.validity =
    kept.lasts ∙ ap (λ (g : Ending). validity_said (said_of g) less.validity) (sym kept.ending) ∙ ap (validity_said (said_of w.ending)) fewer.lasts in
    let within : StopsWithin e asked limits w = stops_within e asked limits walk w stops (kept.ending ∙ fewer.ending) through (kept.counts ∙ fewer.counts) lasts in
    let follows = walked e asked limits w within in
    record {
      walked = follows;
      stops = within;
      lasts = lasts_if_said e asked limits w within;
      honest = walked_so e asked limits w follows within;
      hashed = same_counts _ _ no_counts walk.counts w.counts (kept.counts ∙ fewer.counts) (from_same _ _ no_counts c.none.result walk.counts c.none.ensures c.in_ok-walk.ensures.hashed);
    }

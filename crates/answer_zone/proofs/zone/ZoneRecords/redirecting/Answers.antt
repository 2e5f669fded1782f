use Rattle.std.proofs.Common.{◌≡◌, false, true, Some, sym, ap, ◌∙◌}
use Rattle.definitions.specs.Name.{low}
use Rattle.answer_terms.specs.Accepting.{zone_with}
use Rattle.answer_zone.specs.Finding.{zone_redirects}
use Rattle.answer_zone.proofs.Placing.{behind_first, passed, suffixes_are}
use Rattle.answer_zone.proofs.Redirecting.{among_first, among_passes, among_takes, redirecting_among}
use Rattle.answer_zone.proofs.zone.ZoneRecords.redirecting.Goals as goal

pub loop-ancestor-init : goal.loop-ancestor-init
loop-ancestor-init g c =
    let z = zone_with c.args.self.now.apex c.args.self.now.records in
    let n = c.args.name.now in
    let left : c.next-itself.new.self ≡ behind_first n = passed c.iter_suffixes-ancestors.result c.next-itself.result c.next-itself.new.self c.next-itself.ensures.steps n (behind_first n) (c.iter_suffixes-ancestors.ensures ∙ suffixes_are n) in
    among_first z n ∙ ap (redirecting_among z) (sym left)

pub loop-ancestor-preserved : goal.loop-ancestor-preserved
loop-ancestor-preserved g c =
    let z = zone_with c.args.self.now.apex c.args.self.now.records in
    let a = c.in-Some.ancestor in
    let none : zone_redirects z (low a) ≡ false = sym (ap (λ n. zone_redirects z (low n)) c.in-Ok.ensures) ∙ sym c.redirects.ensures ∙ c.if-redirects.false in
    c.loop-ancestor.invariant ∙ ap (redirecting_among z) c.in-Some.ensures.steps ∙ among_passes z a c.next.new.self none

pub returns-then-redirects : goal.returns-then-redirects
returns-then-redirects g c =
    let z = zone_with c.args.self.now.apex c.args.self.now.records in
    let a = c.in-Some.ancestor in
    let here : zone_redirects z (low a) ≡ true = sym (ap (λ n. zone_redirects z (low n)) c.in-Ok.ensures) ∙ sym c.redirects.ensures ∙ c.if-redirects.true in
    sym (c.loop-ancestor.invariant ∙ ap (redirecting_among z) c.in-Some.ensures.steps ∙ among_takes z a c.next.new.self here ∙ ap Some (sym c.in-Ok.ensures))

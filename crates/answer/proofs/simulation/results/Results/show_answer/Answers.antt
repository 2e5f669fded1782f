use Rattle.std.proofs.Common.{◌≡◌, ℕ, length, refl, rules}
use Rattle.answer_outcomes.specs.declared.outcome.Outcome.{Outcome}
use Rattle.answer_outcomes.specs.declared.outcome.Outcome.TheVariants as outcome
use Rattle.answer.proofs.ShownThings.{last_answer, one_shown}
use Rattle.answer.proofs.simulation.results.Results.show_answer.Goals as goal

pub invariant_of-self-2 : goal.invariant_of-self-2
invariant_of-self-2 c =
    let before = c.self.inside in
    let os = before.outcomes.items in
    let ss = before.shown.items in
    let place : c.len-place.result ≡ length ss = search rules in
    let at : c.len-at.result ≡ length os = search rules in
    let of : ℕ → Outcome = λ n. outcome.Message n c.args.octets in
    let last = last_answer os (of c.len-place.result) c.args.question c.len-at.result c.args.octets.items refl at in
    (one_shown os c.push.new.self.items ss c.push-2.new.self.items c.args.self.now of c.len-place.result _ _ c.self.view_is c.self.invariant place c.in_ok-push.ensures.items c.in_ok-push-2.ensures.items last).1

pub returns : goal.returns
returns c =
    let before = c.self.inside in
    let os = before.outcomes.items in
    let ss = before.shown.items in
    let place : c.len-place.result ≡ length ss = search rules in
    let at : c.len-at.result ≡ length os = search rules in
    let of : ℕ → Outcome = λ n. outcome.Message n c.args.octets in
    let last = last_answer os (of c.len-place.result) c.args.question c.len-at.result c.args.octets.items refl at in
    (one_shown os c.push.new.self.items ss c.push-2.new.self.items c.args.self.now of c.len-place.result _ _ c.self.view_is c.self.invariant place c.in_ok-push.ensures.items c.in_ok-push-2.ensures.items last).0

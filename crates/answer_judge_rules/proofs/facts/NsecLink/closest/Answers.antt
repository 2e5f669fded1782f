use Rattle.std.proofs.Common.{◌≡◌, ◌-◌, ◌<◌, length, refl, sym, ap, ◌∙◌, arith}
use Rattle.std.specs.Prelude.{Option, Some, None, slice_get}
use Rattle.std.specs.Option.{option_map}
use Rattle.std.proofs.lemmas.Iterator.Consumers.{nth_from_yields_List, YieldsList-from_first}
use Rattle.definitions.specs.Name.{Name}
use Rattle.names_labels.specs.Suffixes.{suffixes}
use Rattle.answer_judge_rules.proofs.Closest.{closest_at, closest_fewer}
use Rattle.answer_judge_rules.proofs.facts.NsecLink.closest.Goals as goal

itself : (o : Option Name) → option_map (λ n. n) o ≡ o
itself None = refl
itself (Some n) = refl

pub overflow_sub-depth : goal.overflow_sub-depth
overflow_sub-depth c =
    let less : c.in_ok-labels.labels < length c.args.name.now = closest_fewer c.args.self.now c.args.name.now c.in_ok-labels.labels c.in_ok-labels.ensures in
    omega (arith, c.depth.ensures)

pub returns : goal.returns
returns c =
    sym (itself c.nth.result)
    ∙ nth_from_yields_List {v = λ n. n} c.nth.result c.nth.new.self (c.depth.result - c.in_ok-labels.labels) c.nth.ensures.ran (YieldsList-from_first (λ n. n) (λ names. names) (suffixes c.args.name.now) c.iter_suffixes.ensures)
    ∙ ap (λ k. slice_get (suffixes c.args.name.now) (k - c.in_ok-labels.labels)) c.depth.ensures
    ∙ closest_at c.args.self.now c.args.name.now c.in_ok-labels.labels c.in_ok-labels.ensures

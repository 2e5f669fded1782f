use Rattle.std.proofs.Common.{◌≡◌, ◌+◌, ◌-◌, ◌<◌, ◌∙◌, true, sym, ap, subst, arith, drop, length}
use Rattle.std.specs.Prelude.{IsTrue, ◌↔◌}
use Rattle.names_wire.specs.Name.{same}
use Rattle.names_labels.specs.Compare.{begins_with}
use Rattle.names_labels.specs.Flat.{labels_in}
use Rattle.names_labels.proofs.Compares.{ends-begins, ends-same, ends_short}
use Rattle.names_labels.proofs.traits.ToLabelIter.ends_with.Goals as goal

pub returns-then-tail-count : goal.returns-then-tail-count
returns-then-tail-count g c =
    let short : length (g.Self.Labels.labels c.args.self.now) < length (g.N.Labels.labels c.args.base.now) =
    omega (arith, c.label_count-count.ensures.count, c.label_count-tail.ensures.count) in
    ends_short (g.N.Labels.labels c.args.base.now) (g.Self.Labels.labels c.args.self.now) short

pub returns-in-Some-Some : goal.returns-in-Some-Some
returns-in-Some-Some g c =
    let base = g.N.Labels.labels c.args.base.now in
    let n = g.Self.Labels.labels c.args.self.now in
    let k = c.label_count-count.result - c.label_count-tail.result in
    let whole : k + length base ≡ length n = omega (arith, c.label_count-count.ensures.count, c.label_count-tail.ensures.count) in
    let rest : labels_in c.behind.result.now ≡ drop k n = c.behind.ensures.labels ∙ ap (drop k) c.in-Some-Some.ensures.row.labels in
    let others : labels_in c.in-Some-Some.others.now ≡ base = c.in-Some-Some.ensures'.row.labels in
    ends-same c.runs_eq.result base n (labels_in c.behind.result.now) k whole rest
    (subst (λ m. IsTrue c.runs_eq.result ↔ (same (labels_in c.behind.result.now) m ≡ true)) others c.runs_eq.ensures)

pub returns : goal.returns
returns g c =
    c.agrees.ensures ∙ (λ i. begins_with (c.labels_counted.ensures i) (c.labels_counted-2.ensures i))
    ∙ sym (ends-begins (g.N.Labels.labels c.args.base.now) (g.Self.Labels.labels c.args.self.now) _
    (omega (arith, c.label_count-count.ensures.count, c.label_count-tail.ensures.count)))

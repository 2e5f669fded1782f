use Rattle.std.proofs.Common.{sym, ◌∙◌}
use Rattle.names_labels.specs.Compare.{begins_with}
use Rattle.names_labels.proofs.Compares.{same-begins}
use Rattle.names_labels.proofs.traits.labels_eq.Goals as goal

pub returns-then-count-label_count : goal.returns-then-count-label_count
returns-then-count-label_count g c =
    c.agrees.ensures ∙ (λ i. begins_with (c.labels_counted.ensures i) (c.labels_counted-then-count-label_count.ensures i))
    ∙ sym (same-begins (g.A.Labels.labels c.args.name.now) (g.B.Labels.labels c.args.other.now)
    (sym c.label_count-count.ensures.count ∙ c.if-count-label_count.true ∙ c.label_count.ensures.count))

use Rattle.std.proofs.Common.{◌≡◌, suc, drop, ap, ◌∙◌, arith}
use Rattle.answer_judge_rules.specs.Enclosers.{shared}
use Rattle.answer_judge_rules.proofs.SharedLabels.{shared_so}
use Rattle.answer_judge_rules.proofs.shared.shared_labels.Goals as goal

pub overflow_sub-result : goal.overflow_sub-result
overflow_sub-result g c =
    let ns = g.A.Labels.labels c.args.name.now in
    let ms = g.B.Labels.labels c.args.other.now in
    let all : c.shared_beside.result ≡ suc (shared (g.A.Labels.name c.args.name.now) (g.B.Labels.name c.args.other.now)) =
    shared_so (g.A.Labels.name c.args.name.now) (g.B.Labels.name c.args.other.now) ns ms c.without_first-labels.result c.without_first-beside.result
    c.label_count-count.result c.label_count-others.result c.saturating_sub.result c.saturating_sub-2.result c.shared_beside.result
    (g.met.A.Absolute.rooted c.args.name.now) (g.met.B.Absolute.rooted c.args.other.now) c.label_count-count.ensures.count c.label_count-others.ensures.count
    c.saturating_sub.ensures c.saturating_sub-2.ensures
    (c.without_first-labels.ensures ∙ ap (drop c.saturating_sub.result) c.iter_labels.ensures)
    (c.without_first-beside.ensures ∙ ap (drop c.saturating_sub-2.result) c.iter_labels-2.ensures)
    c.shared_beside.ensures in
    omega arith

pub returns : goal.returns
returns g c =
    let ns = g.A.Labels.labels c.args.name.now in
    let ms = g.B.Labels.labels c.args.other.now in
    let all : c.shared_beside.result ≡ suc (shared (g.A.Labels.name c.args.name.now) (g.B.Labels.name c.args.other.now)) =
    shared_so (g.A.Labels.name c.args.name.now) (g.B.Labels.name c.args.other.now) ns ms c.without_first-labels.result c.without_first-beside.result
    c.label_count-count.result c.label_count-others.result c.saturating_sub.result c.saturating_sub-2.result c.shared_beside.result
    (g.met.A.Absolute.rooted c.args.name.now) (g.met.B.Absolute.rooted c.args.other.now) c.label_count-count.ensures.count c.label_count-others.ensures.count
    c.saturating_sub.ensures c.saturating_sub-2.ensures
    (c.without_first-labels.ensures ∙ ap (drop c.saturating_sub.result) c.iter_labels.ensures)
    (c.without_first-beside.ensures ∙ ap (drop c.saturating_sub-2.result) c.iter_labels-2.ensures)
    c.shared_beside.ensures in
    omega arith

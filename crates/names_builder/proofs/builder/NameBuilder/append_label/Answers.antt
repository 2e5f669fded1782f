use Rattle.std.proofs.Common.{ap, sym, ◌∙◌, ◌++◌, [], length, None, arith}
use Rattle.names_builder.specs.Building.{building, closed, with_labels, labels_with}
use Rattle.names_builder.proofs.Builds.{behind_at, builds, holds_building, label_spelled, one_label, longer_labels}
use Rattle.names_labels.proofs.Checks.{test_some}
use Rattle.names_builder.proofs.builder.NameBuilder.append_label.Goals as goal

pub invariant_of-self-2 : goal.invariant_of-self-2
invariant_of-self-2 g c =
    let bs = g.B.OctetsBuilder.bytes c.self.inside.builder in
    let new = g.B.OctetsBuilder.bytes c.close.new.builder in
    let l = c.args.label.now in
    let some = test_some l _ c.is_empty.ensures c.if-is_empty.false in
    let run = label_spelled l some in
    let w = c.close.ensures ∙ (λ t. closed ((c.in_ok-append_behind.ensures.ok ∙ ap (λ s. bs ++ s) (sym run)) t) c.self.inside.head (c.open_len-open.ensures.value t)) in
    holds_building new None (with_labels c.args.self.now (labels_with [] l))
    (behind_at bs new c.self.inside.head (building bs c.self.inside.head) c.args.self.now (labels_with [] l) c.len-len.result c.self.invariant c.self.view_is w
    (one_label l some (omega arith)) c.len-len.ensures.value (omega (arith, ap length run)))

pub returns-clause-ok : goal.returns-clause-ok
returns-clause-ok g c =
    let bs = g.B.OctetsBuilder.bytes c.self.inside.builder in
    let new = g.B.OctetsBuilder.bytes c.close.new.builder in
    let l = c.args.label.now in
    let some = test_some l _ c.is_empty.ensures c.if-is_empty.false in
    let run = label_spelled l some in
    let w = c.close.ensures ∙ (λ t. closed ((c.in_ok-append_behind.ensures.ok ∙ ap (λ s. bs ++ s) (sym run)) t) c.self.inside.head (c.open_len-open.ensures.value t)) in
    builds new None (with_labels c.args.self.now (labels_with [] l))
    (behind_at bs new c.self.inside.head (building bs c.self.inside.head) c.args.self.now (labels_with [] l) c.len-len.result c.self.invariant c.self.view_is w
    (one_label l some (omega arith)) c.len-len.ensures.value (omega (arith, ap length run)))

pub returns-clause-long_name : goal.returns-clause-long_name
returns-clause-long_name g c =
    let l = c.args.label.now in
    let run = label_spelled l (test_some l _ c.is_empty.ensures c.if-is_empty.false) in
    let long = longer_labels c.args.self.now (labels_with [] l) in
    (λ e. cc, λ p. absurd (omega (arith, p.1, long, ap length run, c.len-len.ensures.value)))

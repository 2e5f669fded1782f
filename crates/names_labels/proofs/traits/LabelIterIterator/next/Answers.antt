use Rattle.std.proofs.Common.{◌<◌, ◌∙◌, sym, arith}
use Rattle.names_wire.specs.Label.{octets_of}
use Rattle.names_labels.proofs.Spans.{span_first}
use Rattle.names_labels.proofs.traits.LabelIterIterator.next.Goals as goal

pub returns-clause-steps : goal.returns-clause-steps
returns-clause-steps g c =
    let before : c.self.inside.front < c.self.inside.back = omega arith in
    sym c.self.view_is ∙ span_first (g.N.Labels.labels c.self.inside.name.now) c.self.inside.front c.self.inside.back (octets_of c.in_ok-label.label) before c.in_ok-label.ensures.0

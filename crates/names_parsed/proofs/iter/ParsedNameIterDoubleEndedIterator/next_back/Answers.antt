use Rattle.std.proofs.Common.{◌≡◌, ◌+◌, ◌-◌, ◌∙◌, sym, ap, take, arith}
use Rattle.std.specs.Prelude.{slice_get}
use Rattle.names_wire.specs.Label.{octets_of}
use Rattle.names_labels.proofs.Runs.{take_one}
use Rattle.names_parsed.specs.Standing.{labels_from}
use Rattle.names_parsed.proofs.iter.ParsedNameIterDoubleEndedIterator.next_back.Goals as goal

pub returns-clause-steps : goal.returns-clause-steps
returns-clause-steps c =
    let it = c.self.inside in
    let ls = labels_from it.message.now it.place in
    let more : it.left ≡ it.left - 1 + 1 = omega arith in
    sym c.self.view_is ∙ ap (λ k. take k ls) more ∙ take_one ls (it.left - 1) (octets_of c.label_within-label.result) (c.label_within-label.ensures ∙ ap (slice_get ls) c.from.ensures)

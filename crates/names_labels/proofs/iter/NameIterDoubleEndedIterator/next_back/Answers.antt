use Rattle.std.proofs.Common.{◌≡◌, ◌∙◌, ◌++◌, ◌∷◌, [], sym, ap, append_assoc, length}
use Rattle.std.proofs.lemmas.Bool.{eqb-true}
use Rattle.std.proofs.lemmas.List.{append-nil}
use Rattle.names_wire.specs.Label.{octets_of}
use Rattle.names_labels.specs.Flat.{labels_in}
use Rattle.names_labels.proofs.Runs.{empty_run}
use Rattle.names_labels.proofs.iter.NameIterDoubleEndedIterator.next_back.Goals as goal
use Rattle.names_labels.proofs.iter.NameIterDoubleEndedIterator.next_back.Goals.{then-is_empty, else-is_empty}

pub returns-clause-steps : goal.returns-clause-steps
returns-clause-steps c =
    let it = c.self.inside in
    let now = c.if-is_empty.self-inside in
    let l = octets_of c.in_ok-front.label in
    let front = labels_in c.in_ok-front.front.now in
    let same : labels_in it.run.now ++ labels_in it.near.now ≡ labels_in now.run.now ++ labels_in now.near.now = elim c.if-is_empty.branch [
      | then-is_empty w ↦
          let none : labels_in it.near.now ≡ [] = empty_run it.near.now (eqb-true (length it.near.now) 0 (sym c.is_empty.ensures ∙ w.if-is_empty.true)) in
          ap (λ ls. labels_in it.run.now ++ ls) none ∙ append-nil (labels_in it.run.now) ∙ w.split_near_end.ensures.parts.labels ∙ (λ i. labels_in (sym w.self-inside-is i).run.now ++ labels_in (sym w.self-inside-is i).near.now)
      | else-is_empty w ↦ λ i. labels_in (sym w.self-inside-is i).run.now ++ labels_in (sym w.self-inside-is i).near.now
    ] in
    sym c.self.view_is ∙ same ∙ ap (λ ls. labels_in now.run.now ++ ls) c.in_ok-front.ensures.last ∙ sym (append_assoc (labels_in now.run.now) front (l ∷ []))

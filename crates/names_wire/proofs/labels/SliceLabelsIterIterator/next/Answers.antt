use Rattle.std.proofs.Common.{◌≡◌, ◌∷◌, [], ◌∙◌, sym, ap, Ok, List, ℕ}
use Rattle.names_wire.specs.Label.{octets_of}
use Rattle.names_wire.proofs.Along.{along_end, along_none, along_root, along_some, behind_label, progress, behind_short}
use Rattle.names_wire.proofs.PartLabel.{not_both}
use Rattle.names_wire.proofs.labels.SliceLabelsIterIterator.next.Goals as goal

pub returns-in-Err-clause-steps : goal.returns-in-Err-clause-steps
returns-in-Err-clause-steps c =
    (sym c.self.view_is ∙ sym c.follow-place.ensures.same ∙ along_none _ _ _ _ c.in-Err.ensures c.follow-place.ensures.last, along_end c.follow-place.result.1 c.self.inside.slice.now)

pub returns-in-Ok-clause-steps : goal.returns-in-Ok-clause-steps
returns-in-Ok-clause-steps c =
    let root : octets_of c.in-Ok.label ≡ [] = c.is_root.ensures.0 c.if-is_root.true in
    sym c.self.view_is ∙ sym c.follow-place.ensures.same
    ∙ along_root c.follow-place.result.1 c.self.inside.slice.now c.follow-place.result.0 c.in-Ok.field-0-1.now (c.in-Ok.ensures ∙ ap (λ (o : List ℕ). Ok (o, c.in-Ok.field-0-1.now)) root)
    ∙ (λ i. sym root i ∷ sym (along_end c.follow-place.result.1 c.self.inside.slice.now) i)

pub returns-in-Ok-clause-goes : goal.returns-in-Ok-clause-goes
returns-in-Ok-clause-goes c = progress _ _ _ _ (returns-in-Ok-clause-steps c)

pub returns-in-Ok-2-clause-steps : goal.returns-in-Ok-2-clause-steps
returns-in-Ok-2-clause-steps c =
    sym c.self.view_is ∙ sym c.follow-place.ensures.same
    ∙ along_some c.follow-place.result.1 c.self.inside.slice.now c.follow-place.result.0 _ (octets_of c.in-Ok.label) c.in-Ok.field-0-1.now c.in-Ok.ensures
    (λ e. not_both c.is_root.result (c.is_root.ensures.1 e) c.if-is_root.false)
    (behind_label c.self.inside.slice.now c.follow-place.result.0 (octets_of c.in-Ok.label) c.in-Ok.field-0-1.now c.follow-place.ensures.within c.in-Ok.ensures)

pub returns-in-Ok-2-clause-goes : goal.returns-in-Ok-2-clause-goes
returns-in-Ok-2-clause-goes c = progress _ _ _ _ (returns-in-Ok-2-clause-steps c)

pub overflow_sub-self : goal.overflow_sub-self
overflow_sub-self c = behind_short c.self.inside.slice.now c.follow-place.result.0 (octets_of c.in-Ok.label) c.in-Ok.field-0-1.now c.follow-place.ensures.within c.in-Ok.ensures

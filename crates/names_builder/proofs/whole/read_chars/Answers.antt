use Rattle.std.proofs.Common.{[], ◌∷◌, ◌++◌, ◌∙◌, ap, refl, sym, inl, inr, Some}
use Rattle.std.specs.Option.{option_map}
use Rattle.std.proofs.lemmas.Result.{err_from_is_err_and}
use Rattle.definitions.specs.Text.{name_of_text}
use Rattle.names_labels.specs.Open.{without_empty}
use Rattle.names_labels.proofs.Wholes.{no_name_behind_dot}
use Rattle.names_builder.specs.FromText.{text_behind}
use Rattle.names_builder.specs.Building.{all_labels}
use Rattle.names_builder.specs.Fault.{named}
use Rattle.names_builder.proofs.WholeTexts.{dot_first, char_first, fault_behind, drains_first, no_text_first, of_text, nothing_more, all_standing}
use Rattle.names_builder.proofs.whole.read_chars.Goals as goal

pub returns-in-Some-next-clause-refused : goal.returns-in-Some-next-clause-refused
returns-in-Some-next-clause-refused g c = λ h.
    inl (
      c.in-Some.first ∷ c.in-Some-next.field-0 ∷ [],
      c.next-then-first-eq46.new.self,
      (c.next.new.self, c.in-Some.ensures.steps, (c.next-then-first-eq46.new.self, c.in-Some-next.ensures.steps, refl)),
      λ rest. ap (λ x. name_of_text (x ∷ c.in-Some-next.field-0 ∷ rest)) c.if-first-eq46.true ∙ no_name_behind_dot c.in-Some-next.field-0 rest,
    )

pub returns-in-None-clause-ok : goal.returns-in-None-clause-ok
returns-in-None-clause-ok g c = (
  c.in-Some.first ∷ [],
  (c.next-then-first-eq46.new.self, (c.next.new.self, (c.next.new.self, c.in-Some.ensures.steps, refl), c.in-None.ensures.steps)),
  ap (λ x. name_of_text (x ∷ [])) c.if-first-eq46.true ∙ ap (λ b. Some (all_labels b)) (sym c.new.ensures),
)

pub returns-in_err-push_char-clause-refused : goal.returns-in_err-push_char-clause-refused
returns-in_err-push_char-clause-refused g c =
    let p = err_from_is_err_and c.from_residual-in_err-push_char.result c.from_residual-in_err-push_char.ensures.1 in
    rw (p.1, p.2) (λ h. inl (
      c.in-Some.first ∷ [],
      c.next.new.self,
      (c.next.new.self, c.in-Some.ensures.steps, refl),
      no_text_first c.in_ok-builder.builder c.in-Some.first c.new-reader.result c.if-first-eq46.false c.in_ok-builder.ensures c.new-reader.ensures (c.in_err-push_char.ensures.refused h),
    ))

pub returns-in_err-append_text-clause-refused : goal.returns-in_err-append_text-clause-refused
returns-in_err-append_text-clause-refused g c =
    let p = err_from_is_err_and c.from_residual-in_err-append_text.result c.from_residual-in_err-append_text.ensures.1 in
    rw (p.1, p.2) (λ h.
    nothing_more g.C.Iterator.next_gives c.args.chars c.next.new.self c.in-Some.first (λ t. text_behind c.push_char.new.self (c.push_char.new.reader ++ t)) c.in-Some.ensures.steps
    (λ t. of_text c.in_ok-builder.builder c.push_char.new.self c.in-Some.first c.new-reader.result c.push_char.new.reader t c.if-first-eq46.false c.in_ok-builder.ensures c.new-reader.ensures c.in_ok-push_char.ensures.ok)
    (c.in_err-append_text.ensures.refused h))

pub returns-clause-ok : goal.returns-clause-ok
returns-clause-ok g c =
    let r = c.in_ok-append_text.ensures.ok in (
      c.in-Some.first ∷ r.0,
      drains_first g.C.Iterator.next_gives c.args.chars c.next.new.self c.in-Some.first r.0 c.in-Some.ensures.steps r.1,
      of_text c.in_ok-builder.builder c.push_char.new.self c.in-Some.first c.new-reader.result c.push_char.new.reader r.0 c.if-first-eq46.false c.in_ok-builder.ensures c.new-reader.ensures c.in_ok-push_char.ensures.ok
          ∙ ap (option_map without_empty) r.2 ∙ ap Some (all_standing c.append_text.new.self),
    )

pub returns-in-Some-next-clause-fault : goal.returns-in-Some-next-clause-fault
returns-in-Some-next-clause-fault g c =
    inr (_, dot_first g.C.Iterator.next_gives c.args.chars c.next.new.self c.in-Some.first (named c.empty_label-in-Some-next.result) c.in-Some.ensures.steps c.if-first-eq46.true c.empty_label-in-Some-next.ensures)

pub returns-in_err-push_char-clause-fault : goal.returns-in_err-push_char-clause-fault
returns-in_err-push_char-clause-fault g c =
    let p = err_from_is_err_and c.from_residual-in_err-push_char.result c.from_residual-in_err-push_char.ensures.1 in
    rw (p.1, p.2) (char_first g.C.Iterator.next_gives c.args.chars c.next.new.self c.in-Some.first c.in_ok-builder.builder c.new-reader.result c.in_err-push_char.field-0.0 c.in-Some.ensures.steps c.in_ok-builder.ensures c.new-reader.ensures c.in_err-push_char.ensures.fault)

pub returns-in_err-append_text-clause-fault : goal.returns-in_err-append_text-clause-fault
returns-in_err-append_text-clause-fault g c =
    let p = err_from_is_err_and c.from_residual-in_err-append_text.result c.from_residual-in_err-append_text.ensures.1 in
    rw (p.1, p.2) (fault_behind g.C.Iterator.next_gives c.args.chars c.next.new.self c.in-Some.first c.in_ok-builder.builder c.push_char.new.self c.append_text.new.self c.new-reader.result c.push_char.new.reader c.in_err-append_text.field-0.0 c.in-Some.ensures.steps c.in_ok-builder.ensures c.new-reader.ensures c.in_ok-push_char.ensures.adds c.in_err-append_text.ensures.fault)

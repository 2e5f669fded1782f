use Rattle.std.proofs.Common.{◌≡◌, ◌∙◌, sym, ap, inr, length, Some, true, false}
use Rattle.std.proofs.lemmas.Bool.{eqb-true}
use Rattle.std.proofs.lemmas.Result.{err_from_is_err_and}
use Rattle.definitions.specs.Text.{relative_of_text}
use Rattle.names_builder.specs.Building.{octets_of_building, all_labels}
use Rattle.names_builder.proofs.FromTexts.{shut_back}
use Rattle.names_builder.proofs.WholeTexts.{relative_fault, nothing_relative, relative_open, relative_none, no_relative, absolute_text, first_ended, same_end}
use Rattle.names_builder.proofs.whole.read_relative.Goals as goal
use Rattle.names_builder.proofs.whole.read_relative.Goals.{then-in_label, else-in_label}

pub returns-in_err-append_chars-clause-refused : goal.returns-in_err-append_chars-clause-refused
returns-in_err-append_chars-clause-refused g c =
    let p = err_from_is_err_and c.from_residual.result c.from_residual.ensures.1 in
    rw (p.1, p.2) (λ h. nothing_relative g.C.Iterator.next_gives c.args.chars c.in-Ok.builder c.in-Ok.ensures (c.in_err-append_chars.ensures.refused h))

pub returns-then-is_empty-clause-ok : goal.returns-then-is_empty-clause-ok
returns-then-is_empty-clause-ok g c =
    let r = c.in_ok-append_chars.ensures.ok in
    let now = c.append_chars.new.self in
    let named : relative_of_text r.0 ≡ Some (all_labels now) = elim c.if-in_label.branch [
      | then-in_label w ↦ relative_open c.in-Ok.builder now r.0 c.in-Ok.ensures r.2 (c.in_label.ensures.0 w.if-in_label.true)
      | else-in_label w ↦ relative_none c.in-Ok.builder now r.0 c.in-Ok.ensures r.2 (eqb-true (length (octets_of_building now)) 0 (sym w.is_empty.ensures ∙ sym w.value-is ∙ c.if-is_empty.true))
    ] in
    (r.0, r.1, named)

pub returns-else-is_empty-clause-refused : goal.returns-else-is_empty-clause-refused
returns-else-is_empty-clause-refused g c = λ h.
    let r = c.in_ok-append_chars.ensures.ok in
    let now = c.append_chars.new.self in
    inr (
      r.0,
      r.1,
      elim c.if-in_label.branch [
        | then-in_label w ↦ let x : true ≡ false = sym w.if-in_label.true ∙ sym w.value-is ∙ c.if-is_empty.false in absurd (cc)
        | else-in_label w ↦ no_relative c.in-Ok.builder now r.0 c.in-Ok.ensures r.2 (shut_back _ _ c.in_label.ensures w.if-in_label.false) (same_end (length (octets_of_building now)) _ w.is_empty.ensures (sym w.value-is ∙ c.if-is_empty.false))
      ],
    )

pub returns-else-is_empty-clause-absolute : goal.returns-else-is_empty-clause-absolute
returns-else-is_empty-clause-absolute g c = λ h.
    let r = c.in_ok-append_chars.ensures.ok in
    let now = c.append_chars.new.self in
    elim c.if-in_label.branch [
      | then-in_label w ↦ let x : true ≡ false = sym w.if-in_label.true ∙ sym w.value-is ∙ c.if-is_empty.false in absurd (cc)
      | else-in_label w ↦
          let ended = shut_back _ _ c.in_label.ensures w.if-in_label.false in
          let some = same_end (length (octets_of_building now)) _ w.is_empty.ensures (sym w.value-is ∙ c.if-is_empty.false) in
          let first = first_ended now ended some in
          (r.0, r.1, (first.0, first.1, absolute_text c.in-Ok.builder now r.0 c.in-Ok.ensures r.2 some ∙ ap Some first.2))
    ]

pub returns-in_err-append_chars-clause-fault : goal.returns-in_err-append_chars-clause-fault
returns-in_err-append_chars-clause-fault g c =
    let p = err_from_is_err_and c.from_residual.result c.from_residual.ensures.1 in
    rw (p.1, p.2) (relative_fault g.C.Iterator.next_gives c.args.chars c.in-Ok.builder c.in_err-append_chars.field-0.0 c.in-Ok.ensures c.in_err-append_chars.ensures.fault)

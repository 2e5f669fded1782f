use Rattle.std.proofs.Common.{◌≡◌, ◌+◌, ◌∙◌, ◌<◌, ◌++◌, ◌∷◌, [], take, arith, refl}
use Rattle.std.proofs.lemmas.Grind.{take-set_at}
use Rattle.names_builder.proofs.TextWalks.{spells_text}
use Rattle.names_builder.proofs.walk.text_octets.Goals as goal
use Rattle.names_builder.proofs.walk.text_octets.Goals.{then-last-gt0, else-last-gt0}

pub returns : goal.returns
returns c =
    let made = c.in_ok-from_slice.field-0.items in
    let octets = c.write_labels.new.octets in
    let end = c.in-Some.end in
    let last = c.in-Some.last in
    let some : 0 < last → made ≡ take end octets ++ 0 ∷ [] = λ h. elim c.if-last-gt0.branch [
      | then-last-gt0 w ↦ c.in_ok-from_slice.ensures.items ∙ (λ i. take (w.end-is i) (w.octets-is i)) ∙ take-set_at octets end (end + 1) 0 refl (c.in-Some.ensures.root h)
      | else-last-gt0 w ↦ absurd (omega (arith, h, w.if-last-gt0.false))
    ] in
    let none : last ≡ 0 → made ≡ take end octets = λ h. elim c.if-last-gt0.branch [
      | then-last-gt0 w ↦ absurd (omega (arith, h, w.if-last-gt0.true))
      | else-last-gt0 w ↦ c.in_ok-from_slice.ensures.items ∙ (λ i. take (w.end-is i) (w.octets-is i))
    ] in
    spells_text c.args.text.now octets made end last c.in-Some.ensures.labels some none

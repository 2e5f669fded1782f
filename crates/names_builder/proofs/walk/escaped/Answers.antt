use Rattle.std.proofs.Common.{◌≡◌, ◌∙◌, true, false, sym}
use Rattle.names_builder.proofs.TextWalks.{reads_quoted}
use Rattle.names_builder.proofs.walk.escaped.Goals as goal
use Rattle.names_builder.proofs.walk.escaped.Goals.{else-first-eq91-via-then-first-eq91+else-not-in_label, else-first-eq91-via-else-first-eq91}

pub returns-clause-symbol : goal.returns-clause-symbol
returns-clause-symbol c =
    let first = c.in_ok-first.field-0-0.now in
    let behind = c.in_ok-first.behind.now in
    let begins : c.args.in_label ≡ false → first ≡ 91 → ⊥ = λ e f. elim c.else-first-eq91.branch [
      | else-first-eq91-via-then-first-eq91+else-not-in_label w ↦ let x : true ≡ false = sym w.if-not-in_label.false ∙ e in cc
      | else-first-eq91-via-else-first-eq91 w ↦ w.if-first-eq91.false f
    ] in
    rw c.in_ok-first.ensures.cases.0 (reads_quoted first behind c.args.in_label (sym c.is_ascii_digit.ensures.value ∙ c.if-is_ascii_digit.false) c.if-first-lt32.false c.if-first-gt126.false begins)

pub returns-then-is_ascii_digit-clause-symbol : goal.returns-then-is_ascii_digit-clause-symbol
returns-then-is_ascii_digit-clause-symbol c = rw c.in_ok-first.ensures.cases.0 (c.in_ok-decimal.ensures.symbol c.args.in_label)
